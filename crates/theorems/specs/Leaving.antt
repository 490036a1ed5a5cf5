-- Rows left out, and two catalogues, on bytes (SPECIFICATION, "Leaving out rows"). Assumes nothing.
use Rattle.std.specs.Prelude.{◌≡◌, not, List, ℕ, ◌*◌, ◌%◌, ◌≤◌, ltb, eqb, ℤ, length}
use Rattle.std.proofs.Math.Bool.{false}
use Rattle.std.proofs.Math.Nat.{mul-mod_left}
use borrow.Author.Tests.{ltb-false, le-ltb, eqb-true, eq-eqb, not-false}
use Rattle.model.specs.Query.{row_count, fails_rows}
use Rattle.laws.specs.Members.{or_off}
use Rattle.laws.specs.AcceptedTable.{accepted-table}
use Rattle.laws.specs.LeftRows.{whole-rows, rows_of}
use Rattle.theorems.specs.Asked.{Asked}
use Rattle.theorems.specs.Ordered.{taken}

-- ---- what Query takes

module _ (table : List ℕ) (columns : ℕ) (rows : List ℤ) (term group : ℕ) (asked : Asked table columns rows term group) where
  -- There is a column,
  pub some-column : 1 ≤ columns
  some-column = (accepted-table table columns (taken table columns term asked.of_term).is_accepted).some_column

  -- the rows are whole,
  pub rows_whole : length rows ≡ row_count columns rows * columns
  unfolding fails_rows
  rows_whole =
      let f = or_off (not (eqb (length rows % columns) 0)) (ltb 1024 (row_count columns rows)) asked.rows_fit in
      whole-rows columns some-column rows
      (eqb-true (length rows % columns) 0 (not-false (eqb (length rows % columns) 0) f.0))

  -- and up to 1,024.
  pub rows_few : row_count columns rows ≤ 1024
  unfolding fails_rows
  rows_few =
      let f = or_off (not (eqb (length rows % columns) 0)) (ltb 1024 (row_count columns rows)) asked.rows_fit in
      ltb-false 1024 (row_count columns rows) f.1

  -- It takes any other whole rows, up to 1,024.
  pub asked_of : (run : List ℤ) (c : ℕ) → length run ≡ c * columns → c ≤ 1024 → Asked table columns run term group
  unfolding fails_rows
  asked_of run c e few = record { of_term = asked.of_term; rows_fit = fit; group_fits = asked.group_fits }
    where
      fit : fails_rows columns run ≡ false
      fit =
          rw (
            eq-eqb (length run % columns) 0 (rw e (mul-mod_left c columns)),
            rows_of columns some-column run c e,
            le-ltb 1024 c few,
          )
