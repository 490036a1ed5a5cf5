-- `table::runs::clash_with` meets its contract.
use borrow.Author.Rules.{sfits_of}
use Rattle.model.specs.Check.{clash}
use Rattle.records.proofs.Signed.{eq-bits}
use Rattle.table.proofs.runs.clash_with.Goals as goal

pub returns : goal.returns
unfolding clash
returns c =
    rw (eq-bits (sfits_of c.u_at.type_inv) (sfits_of c.u_at-2.type_inv), c.u_at.ensures, c.u_at-2.ensures, c.p_at.ensures, c.p_at-2.ensures)
