-- `table::rules::fails_kind` meets its contract.
use mathlib.Core.Path.{◌∙◌, ap}
use Rattle.model.specs.Record.{kind_at, p_at, q_at, u_at, v_at, record_at}
use Rattle.model.specs.Check.{fails_kind}
use Rattle.table.proofs.Shapes.{kind-shape}
use Rattle.table.proofs.rules.fails_kind.Goals as goal

pub returns : goal.returns
unfolding record_at
returns c =
    let a = c.args in
    let t = a.table.now in
    let k = a.k in
    c.is_unknown.ensures ∙ ap fails_kind c.record_of.ensures
    ∙ rw c.kind_at.ensures (kind-shape (kind_at t k) (p_at t k) (q_at t k) (u_at t k) (v_at t k))
