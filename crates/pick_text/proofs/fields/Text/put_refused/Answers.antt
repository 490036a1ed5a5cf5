-- `pick_text::fields::Text::put_refused` meets its contract: what it puts, one after another, is the line.
use native.Mathlib.Omega.{arith}
use Rattle.pick_text.proofs.Joins.{wider, then}
use Rattle.pick_text.proofs.LinesTexts.{refused}
use Rattle.pick_text.proofs.fields.Text.put_refused.Goals as goal

pub returns : goal.returns
returns c =
    wider
    (then
    (then (then (then c.put.ensures c.put_number.ensures) c.put_byte.ensures) c.put_place.ensures)
    c.put_byte-2.ensures)
    (refused _ c.number.ensures c.place.ensures)
    (omega arith)
