-- Which verdict comes first (SPECIFICATION, "What a call refuses"). Assumes nothing.
use mathlib.Core.Path.{◌≡◌, refl}
use mathlib.Core.Bool.{Bool}
use mathlib.Core.List.{List}
use Prim.Native.Nat.{ℕ, zero, suc, ◌<◌}
use native.Mathlib.Omega.{arith}
use Rattle.model.specs.Check.{fails_width, verdict_by, table_verdict}
use Rattle.model.specs.Compare.{term_verdict}
use Rattle.laws.specs.AcceptedTable.{accepted-table}
use Rattle.laws.specs.Taken.{TakenTerm}

-- No column at all is refused as 1 WIDTH, whatever the rows are: so only a count above 0 needs its rows judged.
pub rows-judged : (table : List ℕ) (columns term : ℕ) {unfit fails : Bool} → (0 < columns → unfit ≡ fails)
    → term_verdict table columns fails term ≡ term_verdict table columns unfit term
unfolding term_verdict table_verdict verdict_by fails_width
rows-judged table zero term e = refl
rows-judged table (suc n) term e = rw (e (omega arith))

-- Where nothing of a table is refused, there is a column.
pub some-column : {table : List ℕ} {columns term : ℕ} → TakenTerm table columns term → 0 < columns
some-column {table} {columns} t = omega (arith, (accepted-table table columns t.is_accepted).some_column)
