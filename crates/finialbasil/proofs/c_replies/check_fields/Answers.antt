-- `finialbasil::c_replies::check_fields` meets its contract: each arm lays out a case of `listed_check`.
use Rattle.finialbasil.specs.Layout.{check_fields}
use Rattle.finialbasil.proofs.NoValues.{no-values}
use Rattle.finialbasil.proofs.c_replies.check_fields.Goals as goal

pub returns-in-Ok : goal.returns-in-Ok
unfolding check_fields
returns-in-Ok c = rw (c.in-Ok.is, c.from.ensures, c.from-in-Ok.ensures, c.from-in-Ok-2.ensures)

pub returns-in-Err : goal.returns-in-Err
unfolding check_fields
returns-in-Err c =
    simp (
      c.in-Err.is,
      c.place_number.ensures,
      c.place.ensures,
      c.number.ensures,
      no-values,
    )
