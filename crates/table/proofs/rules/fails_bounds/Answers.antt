-- `table::rules::fails_bounds` meets its contract.
use Rattle.model.specs.Check.{fails_bounds}
use Rattle.records.proofs.Signed.{returned}
use Rattle.table.proofs.rules.fails_bounds.Goals as goal

pub returns : goal.returns
unfolding fails_bounds
returns c =
    let u = c.u_at in
    let v = c.v_at in
    rw (c.kind_at.ensures, returned u.result u.type_inv u.ensures, returned v.result v.type_inv v.ensures)
