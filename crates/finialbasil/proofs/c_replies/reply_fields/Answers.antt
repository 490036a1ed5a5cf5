-- `finialbasil::c_replies::reply_fields` meets its contract: a refusal gives no value.
use Rattle.finialbasil.specs.Layout.{reply_fields}
use Rattle.finialbasil.proofs.NoValues.{no-values}
use Rattle.finialbasil.proofs.c_replies.reply_fields.Goals as goal

pub returns-in-Ok : goal.returns-in-Ok
unfolding reply_fields
returns-in-Ok c = rw c.in-Ok.is

pub returns-in-Err : goal.returns-in-Err
unfolding reply_fields
returns-in-Err c =
    rw (c.in-Err.is, c.place_number.ensures, c.place.ensures, c.number.ensures, no-values c.in-Err.why)
