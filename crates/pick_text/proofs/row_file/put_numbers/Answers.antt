use native.Mathlib.Omega.{arith}
use mathlib.Core.Path.{refl, ◌∙◌}
use mir.Facts.{to_z-of_z}
use mir.Syntax.{w32}
use borrow.Author.Rules.{sfits_of}
use Rattle.model.specs.Bytes.{numbers}
use Rattle.pick_text.proofs.Numbers.{numbers-store}
use Rattle.pick_text.proofs.row_file.put_numbers.Goals as goal

pub loop-i-init : goal.loop-i-init
unfolding numbers
loop-i-init c = refl

pub loop-i-preserved : goal.loop-i-preserved
loop-i-preserved c =
    let e = to_z-of_z {w = w32} (sfits_of c.number_at.type_inv) ∙ c.number_at.ensures in
    numbers-store c.args.bytes.now c.loop-i.run c.loop-i.i _ (omega arith) c.loop-i.invariant e
