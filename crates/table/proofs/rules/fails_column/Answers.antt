-- `table::rules::fails_column` meets its contract.
use mathlib.Core.Path.{◌∙◌, ap}
use Rattle.model.specs.Record.{kind_at, p_at, q_at, u_at, v_at, record_at}
use Rattle.model.specs.Check.{fails_column}
use Rattle.table.proofs.Shapes.{column-shape}
use Rattle.table.proofs.rules.fails_column.Goals as goal

pub returns : goal.returns
unfolding record_at
returns c =
    let a = c.args in
    let t = a.table.now in
    let k = a.k in
    c.reads_past.ensures ∙ ap (fails_column a.columns) c.record_of.ensures
    ∙ rw (c.kind_at.ensures, c.p_at.ensures) (column-shape (kind_at t k) (p_at t k) (q_at t k) (u_at t k) (v_at t k) a.columns)
