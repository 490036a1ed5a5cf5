-- The rows of a run that is compared. Assumes nothing.
use mathlib.Core.Path.{◌≡◌}
use mathlib.Core.Bool.{Bool}
use mathlib.Core.List.{List}
use Prim.Native.Nat.{ℕ, ◌+◌, ◌-◌, ◌*◌, ◌<◌, ◌≤◌}
use native.Mathlib.Nat.{mul-le-mul_left, mul-le-mul_right}
use native.Mathlib.Omega.{arith}
use lib.IntN.{ℤ}
use lib.ListN.{length, take, drop}
use Rattle.model.specs.Better.{Row}
use Rattle.laws.specs.AcceptedTable.{accepted-table}
use Rattle.rows.specs.Places.{row_in, row-part, row-length}
use Rattle.plan.specs.declared.vetted.exit_masks.{Exit.Exit}
use Rattle.plan.specs.declared.vetted.ops.{Step.Step}
use Rattle.pairs.specs.Pairs.{Comparable, RowOf}

module _ {table : List ℕ} {ops : List Step} {ends : List ℕ} {reach : List (List Bool)} {marks : List Bool} {exits : List Exit}
    {term columns : ℕ} {rows : List ℤ} {n stride : ℕ} {ranks : List ℤ}
    (c : Comparable table ops ends reach marks exits term columns rows n stride ranks) where
  -- A row of the run ends inside it,
  pub row_ends : {i : ℕ} → i < n → i * columns + columns ≤ length rows
  row_ends {i} l = row_in n columns (length rows) c.run i l

  -- at most 8 columns are there,
  pub few-columns : columns ≤ 8
  few-columns = (accepted-table table columns c.taken.is_accepted).few_columns

  -- and a run is at most 1,024 rows of 8 cells.
  pub run_short : length rows ≤ 8192
  run_short =
      let a = mul-le-mul_right columns c.few in
      let b = mul-le-mul_left 1024 few-columns in
      omega (arith, c.run)

  -- A row of the run has the run's columns.
  pub row_fits : {i : ℕ} {row : Row} → RowOf columns rows n i row → length row ≡ columns
  row_fits {i} r = rw r.is (row-length columns rows n c.run i r.below)

  -- The part of the run from a row's beginning to its end is a row of the run.
  pub part_is : (i : ℕ) → i < n → RowOf columns rows n i (take (i * columns + columns - i * columns) (drop (i * columns) rows))
  part_is i l = record { below = l; is = row-part columns rows i }
