-- `pick_text::fields::Text::put_number` meets its contract: each branch is a number of one digit more.
use native.Mathlib.Omega.{arith}
use Rattle.pick_text.proofs.Joins.{wider}
use Rattle.pick_text.proofs.Texts.{one, two, three, four}
use Rattle.pick_text.proofs.fields.Text.put_number.Goals as goal

pub returns-in-0-to-9 : goal.returns-in-0-to-9
returns-in-0-to-9 c =
    let e = one _ c.digit.ensures c.digit-2.ensures c.digit-3.ensures c.digit-4.ensures (omega arith) in
    wider c.put.ensures e (omega arith)

pub returns-in-10-to-99 : goal.returns-in-10-to-99
returns-in-10-to-99 c =
    let e = two _ c.digit.ensures c.digit-2.ensures c.digit-3.ensures c.digit-4.ensures (omega arith) (omega arith) in
    wider c.put-in-10-to-99.ensures e (omega arith)

pub returns-in-100-to-999 : goal.returns-in-100-to-999
returns-in-100-to-999 c =
    let e = three _ c.digit.ensures c.digit-2.ensures c.digit-3.ensures c.digit-4.ensures (omega arith) (omega arith) in
    wider c.put-in-100-to-999.ensures e (omega arith)

pub returns-in_default : goal.returns-in_default
returns-in_default c =
    let e = four _ c.digit.ensures c.digit-2.ensures c.digit-3.ensures c.digit-4.ensures (omega arith) in
    wider c.put-in_default.ensures e (omega arith)
