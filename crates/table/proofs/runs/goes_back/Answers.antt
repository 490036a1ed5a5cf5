-- `table::runs::goes_back` meets its contract.
use borrow.Author.Rules.{sfits_of}
use Rattle.records.proofs.Signed.{eq-bits}
use Rattle.table.specs.Rules.{goes_back}
use Rattle.table.proofs.runs.goes_back.Goals as goal

pub returns : goal.returns
unfolding goes_back
returns c = rw (eq-bits (sfits_of c.u_at.type_inv) (sfits_of c.v_at.type_inv), c.u_at.ensures, c.v_at.ensures)
