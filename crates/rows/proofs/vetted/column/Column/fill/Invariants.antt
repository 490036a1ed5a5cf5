-- `rows::vetted::column::Column::fill` meets its contract: the entries below j.
use Rattle.std.proofs.Common.{ℕ, ◌+◌, ◌*◌, ◌<◌, pos, get_or}
use Rattle.model.specs.Better.{cell}
use Rattle.model.specs.Query.{row_at}
use Rattle.rows.proofs.vetted.column.Column.fill.Given as goal

abbrev pub invariant-loop-j : goal.invariant-loop-j
invariant-loop-j g l =
    (h : ℕ) → h < l.j → goal.F-post g l.rank (cell (row_at l.self.rows.columns l.self.rows.cells.now (l.self.b * 64 + h)) l.self.c)
    (get_or l.entries h (pos 0))
