-- `pick_text::fields::Text::put_head` meets its contract: what it puts, one after another, is the line.
use native.Mathlib.Omega.{arith}
use Rattle.pick_text.proofs.Joins.{wider, then}
use Rattle.pick_text.proofs.LinesTexts.{head}
use Rattle.pick_text.proofs.fields.Text.put_head.Goals as goal

pub returns : goal.returns
returns c =
    wider
    (then
    (then
    (then
    (then
    (then (then c.put.ensures c.put_number.ensures) c.put_byte.ensures)
    c.put_number-2.ensures)
    c.put_byte-2.ensures)
    c.put_number-3.ensures)
    c.put_byte-3.ensures)
    (head _ _)
    (omega arith)
