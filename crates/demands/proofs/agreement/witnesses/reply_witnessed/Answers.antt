-- `demands::agreement::witnesses::reply_witnessed` meets its contract.
use native.Mathlib.Omega.{arith}
use Rattle.model.specs.Query.{row_count}
use Rattle.demands.proofs.agreement.witnesses.reply_witnessed.Goals as goal

pub nonzero_div-rows : goal.nonzero_div-rows
nonzero_div-rows c =
    omega (arith, (c.requires c.in-Ok.field-0 c.in-Ok.is).some)

pub all_witnessed-requires : goal.all_witnessed-requires
unfolding row_count
all_witnessed-requires c =
    c.requires c.in-Ok.field-0 c.in-Ok.is

pub returns-in-Err : goal.returns-in-Err
returns-in-Err c = rw c.in-Err.is

pub returns-in-Ok : goal.returns-in-Ok
unfolding row_count
returns-in-Ok c = rw c.in-Ok.is c.all_witnessed.ensures
