-- The cells of rows by block. Row b * 64 + j is lane j of block b.
use Rattle.std.specs.Prelude.{◌≡◌, List, ℕ, ◌+◌, ◌*◌, ◌<◌, ◌≤◌, ℤ, pos, get_or}
use Rattle.model.specs.Better.{cell}
use Rattle.model.specs.Query.{row_at}

-- A buffer of that length has a stretch of `size` for each block of n rows.
pub record Room (n size length : ℕ) : Type 0 where
  pub each : (b : ℕ) → b * 64 < n → b * size + size ≤ length

-- The columns below c hold the cells of the n rows: block b, then column, then lane.
pub record Valued (columns : ℕ) (rows : List ℤ) (n c : ℕ) (values : List ℤ) : Type 0 where
  pub each : (b j h : ℕ) → j < 64 → b * 64 + j < n → h < c
      → get_or values (b * 512 + h * 64 + j) (pos 0) ≡ cell (row_at columns rows (b * 64 + j)) h

-- The blocks below b hold the cells of their rows, and block b those of the columns below c.
pub record Filled (columns : ℕ) (rows : List ℤ) (n b c : ℕ) (values : List ℤ) : Type 0 where
  pub below : (a j h : ℕ) → j < 64 → a * 64 + j < n → a < b → h < columns
      → get_or values (a * 512 + h * 64 + j) (pos 0) ≡ cell (row_at columns rows (a * 64 + j)) h
  pub here : (j h : ℕ) → j < 64 → b * 64 + j < n → h < c
      → get_or values (b * 512 + h * 64 + j) (pos 0) ≡ cell (row_at columns rows (b * 64 + j)) h
