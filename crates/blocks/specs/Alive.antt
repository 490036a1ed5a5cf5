-- Which lanes of block b count for row i: those that pass a test and are in its group. Row b * 64 + j is lane j.
use Rattle.std.specs.Prelude.{◌≡◌, Bool, false, not, ◌&&◌, List, ℕ, ◌+◌, ◌*◌, ◌≤◌, ◌<◌, ℤ, get_or, length}
use Rattle.model.specs.Search.{any_below}
use Rattle.model.specs.Better.{equal_in}
use Rattle.model.specs.Query.{row_at}
use Rattle.rows.specs.Group.{differs}
use Rattle.rows.specs.Values.{Room, Valued}
use Rattle.lanes.specs.Lit.{lit}

-- The run has n rows, and their cells stand in `values`.
pub record Cells (columns : ℕ) (rows : List ℤ) (n : ℕ) (values : List ℤ) : Type 0 where
  pub run : length rows ≡ n * columns
  pub narrow : columns ≤ 8
  pub few : n ≤ 1024
  pub room : Room n 512 (length values)
  pub valued : Valued columns rows n columns values

-- After one column: a lane stays lit where the column is not of the group, or the values are equal.
pub record Columned (group columns : ℕ) (rows : List ℤ) (n i b c : ℕ) (old new : List ℕ) : Type 0 where
  pub on : (j : ℕ) → j < 64 → b * 64 + j < n
      → lit new j ≡ (lit old j && not (differs group (row_at columns rows i) (row_at columns rows (b * 64 + j)) c))
  pub off : (j : ℕ) → j < 64 → lit old j ≡ false → lit new j ≡ false

-- After c columns.
pub record Grouped (group columns : ℕ) (rows : List ℤ) (n i b c : ℕ) (old new : List ℕ) : Type 0 where
  pub on : (j : ℕ) → j < 64 → b * 64 + j < n
      → lit new j ≡ (lit old j && not (any_below c (differs group (row_at columns rows i) (row_at columns rows (b * 64 + j)))))
  pub off : (j : ℕ) → j < 64 → lit old j ≡ false → lit new j ≡ false

-- Lit: the lanes that pass, in row i's group. No lane at or above the row count is.
pub record Alive (group columns : ℕ) (rows : List ℤ) (n i b : ℕ) (pass : ℕ → Bool) (live : List ℕ) : Type 0 where
  pub on : (j : ℕ) → j < 64 → b * 64 + j < n
      → lit live j ≡ (pass j && equal_in group (row_at columns rows i) (row_at columns rows (b * 64 + j)))
  pub off : (j : ℕ) → j < 64 → n ≤ b * 64 + j → lit live j ≡ false

-- Lanes that are no rows are gone,
pub record Above (n : ℕ) (gone : List ℕ) : Type 0 where
  pub each : (x : ℕ) → n ≤ x → x < 1024 → get_or gone x 0 ≡ 0 → ⊥

-- and need no name.
pub record Beyond (n : ℕ) (by : List ℕ) : Type 0 where
  pub each : (x : ℕ) → n ≤ x → x < 1024 → get_or by x 0 ≡ 1024 → ⊥
