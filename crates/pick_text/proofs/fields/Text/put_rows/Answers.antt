use native.Mathlib.Omega.{arith}
use mathlib.Core.Path.{refl, sym}
use mathlib.Core.List.{append-nil}
use Rattle.model.specs.Pick.{rows_text}
use Rattle.pick_text.proofs.Joins.{wider, then}
use Rattle.pick_text.proofs.RowLinesTexts.{more}
use Rattle.pick_text.proofs.fields.Text.put_rows.Goals as goal

pub loop-i-init : goal.loop-i-init
unfolding rows_text
loop-i-init c = record { same_buffer = refl; is = sym (append-nil _); no_more = omega arith; long = refl }

pub loop-i-preserved : goal.loop-i-preserved
loop-i-preserved c = wider (then c.loop-i.invariant c.put_row.ensures) (more c.loop-i.i _) (omega arith)
