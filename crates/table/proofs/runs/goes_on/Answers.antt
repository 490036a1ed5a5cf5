-- `table::runs::goes_on` meets its contract.
use borrow.Author.Rules.{sfits_of}
use Rattle.records.proofs.Signed.{eq-bits}
use Rattle.table.specs.Rules.{goes_on}
use Rattle.table.proofs.runs.goes_on.Goals as goal

pub returns : goal.returns
unfolding goes_on
returns c = rw (eq-bits (sfits_of c.v_at.type_inv) (sfits_of c.u_at.type_inv), c.u_at.ensures, c.v_at.ensures)
