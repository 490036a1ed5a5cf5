-- What holds of a call that refuses nothing (SPECIFICATION, "What a call refuses"). Assumes nothing.
use Rattle.std.specs.Prelude.{◌≡◌, false, not, List, ℕ, ◌*◌, ◌/◌, ◌%◌, ◌<◌, ◌≤◌, ltb, eqb, ℤ, length}
use Rattle.std.proofs.Math.Path.{sym}
use Rattle.std.proofs.Common.{◌∙◌, arith}
use Rattle.std.proofs.Math.Nat.{mod-add-div', zero-add}
use borrow.Author.Tests.{eqb-true, ltb-false, not-false}
use Rattle.model.specs.Term.{term_at}
use Rattle.model.specs.Query.{row_count, fails_rows, beats_in}
use Rattle.laws.specs.Members.{or_off}
use Rattle.laws.specs.Order.{Strict}
use Rattle.laws.specs.Rows.{beats-strict}
use Rattle.laws.proofs.Strict.{ordered}
use Rattle.laws.specs.AcceptedTable.{accepted-table}
use Rattle.laws.specs.Taken.{TakenTerm, Taken}
use Rattle.laws.proofs.Taken.{taken-sound}
use Rattle.terms.specs.Prepared.{Vetted}
use Rattle.selection.specs.Selected.{AskedRows}

-- The table is vetted; there are at most 8 columns, and the term is one of at most 128 records.
module _ {table : List ℕ} {columns term : ℕ} (t : TakenTerm table columns term) where
  pub vetted : Vetted table
  vetted = record { columns = columns; accepted = t.is_accepted }

  pub few-columns : columns ≤ 8
  few-columns = (accepted-table table columns t.is_accepted).few_columns

  pub term-below : term < 128
  term-below = omega (arith, t.below, (accepted-table table columns t.is_accepted).few_records)

-- The asked term orders the rows of a set strictly.
pub strict-rows : {table : List ℕ} {columns term : ℕ} → TakenTerm table columns term → (rows : List ℤ) (group : ℕ)
    → Strict (beats_in (term_at table term) columns rows group)
strict-rows {table} {columns} {term} t rows group =
    let s = taken-sound table columns term t in
    beats-strict columns rows group (term_at table term) (ordered (term_at table term) s.0 s.1).strict

-- The rows are whole, and at most 1,024.
module _ {table : List ℕ} {columns : ℕ} {rows : List ℤ} {term group : ℕ} {before : List ℕ}
    (t : Taken table columns rows term group before) where
  both : (not (eqb (length rows % columns) 0) ≡ false) × (ltb 1024 (row_count columns rows) ≡ false)
  unfolding fails_rows
  both = or_off (not (eqb (length rows % columns) 0)) (ltb 1024 (row_count columns rows)) t.rows_fit

  whole : length rows ≡ row_count columns rows * columns
  unfolding row_count
  whole =
      let e = eqb-true (length rows % columns) 0 (not-false (eqb (length rows % columns) 0) both.0) in
      let d = mod-add-div' (length rows) columns in
      sym (rw e at d) ∙ zero-add (length rows / columns * columns)

  pub asked-rows : AskedRows table columns term rows (row_count columns rows)
  asked-rows = record { taken = t.of_term; run = whole; few = ltb-false 1024 (row_count columns rows) both.1 }
