-- `direct::rounds::eliminate` meets its contract.
use mathlib.Core.Path.{◌≡◌}
use native.Mathlib.Omega.{arith}
use Rattle.laws.specs.Rounds.{settled-of}
use Rattle.selection.specs.Taken.{strict-rows}
use Rattle.direct.proofs.rounds.eliminate.Goals as goal

-- The better order is strict, so that no row that is not gone at the end is beaten.
pub returns-clause-settled : goal.returns-clause-settled
returns-clause-settled c =
    let end : c.loop-i.i ≡ c.args.pairs.now.rows.n = omega arith in
    settled-of _ _ _ (strict-rows c.args.pairs.now.comparable.taken _ _) (rw end at c.loop-i.invariant.2)
