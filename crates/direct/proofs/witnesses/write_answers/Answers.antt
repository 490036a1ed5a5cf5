-- `direct::witnesses::write_answers` meets its contract.
use mathlib.Core.Path.{refl}
use lib.ListN.{length-set}
use Rattle.model.specs.Search.{fill}
use Rattle.laws.specs.Fill.{fill_step}
use Rattle.direct.proofs.witnesses.write_answers.Goals as goal

pub loop-row-init : goal.loop-row-init
unfolding fill
loop-row-init c = (refl, refl)

pub loop-row-preserved : goal.loop-row-preserved
loop-row-preserved c =
    let v = c.loop-row.invariant in
    (simp length-set v.0, rw (v.1, c.entry.ensures) (fill_step _ _ _))
