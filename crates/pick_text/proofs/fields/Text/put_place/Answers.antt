-- `pick_text::fields::Text::put_place` meets its contract: a place is a number or `-`.
use native.Mathlib.Omega.{arith}
use Rattle.pick_text.proofs.Joins.{wider}
use Rattle.pick_text.proofs.Texts.{nowhere}
use Rattle.pick_text.proofs.fields.Text.put_place.Goals as goal

pub returns-in-None : goal.returns-in-None
returns-in-None c = wider c.put_byte.ensures (nowhere c.in-None.is) (omega arith)
