-- The rows of a run as parts of it (SPECIFICATION, "The calls"). Assumes nothing.
use mathlib.Core.List.{List}
use Prim.Native.Nat.{ℕ, ◌+◌, ◌*◌, ◌<◌, ◌≤◌}
use native.Mathlib.Nat.{le_trans, mul-le-mul}
use lib.IntN.{ℤ}
use lib.ListN.{length}
use Rattle.rows.specs.Places.{row_in}
use Rattle.demands.specs.Witness.{Answers}

module _ (columns : ℕ) (rows : List ℤ) (n : ℕ) (answers : List ℕ) (a : Answers columns rows n answers) (i : ℕ) (h : i < n) where
  -- A row ends inside the run,
  pub row-end : i * columns + columns ≤ length rows
  row-end = row_in n columns (length rows) a.run i h

  -- which has up to 8,192 cells.
  pub row_small : i * columns + columns ≤ 8192
  row_small = le_trans row-end (rw a.run (mul-le-mul a.most a.few))
