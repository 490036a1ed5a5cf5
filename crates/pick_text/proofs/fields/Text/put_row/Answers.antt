-- `pick_text::fields::Text::put_row` meets its contract: what it puts, one after another, is the line.
use native.Mathlib.Omega.{arith}
use Rattle.pick_text.proofs.Joins.{wider, then}
use Rattle.pick_text.proofs.RowLinesTexts.{kept, dropped}
use Rattle.pick_text.proofs.fields.Text.put_row.Goals as goal

pub returns-then-e-i : goal.returns-then-e-i
returns-then-e-i c =
    wider (then c.put_number.ensures c.put.ensures) (kept _ _ c.if-e-i.true) (omega arith)

pub returns : goal.returns
returns c =
    wider
    (then
    (then (then c.put_number.ensures c.put-2.ensures) c.put_number-2.ensures)
    c.put_byte.ensures)
    (dropped _ _ c.if-e-i.false)
    (omega arith)
