-- What the loops over the rows that are left ask, and what they leave (SPECIFICATION, "Leaving out rows").
use Rattle.std.specs.Prelude.{◌≡◌, Bool, List, ℕ, ◌*◌, ◌+◌, ◌<◌, ◌≤◌, ℤ, length, get_or, take}
use Rattle.model.specs.Search.{count_below, list_below}
use Rattle.model.specs.Leaving.{left_below}

-- Marks for 1,024 rows, and an entry for each of the `count` rows that are marked from `from` on.
pub record Marking (entries : List ℕ) (from count : ℕ) (stay : List Bool) : Type 0 where
  pub long : count ≤ length entries
  pub few : from + count ≤ 1024
  pub room : length stay ≡ 1024

-- n whole rows, of up to 8 columns.
pub record Run (columns : ℕ) (rows : List ℤ) (n : ℕ) : Type 0 where
  pub few : columns ≤ 8
  pub run : length rows ≡ n * columns
  pub most : n ≤ 1024

-- Room for 1,024 rows of 8 columns, and for their numbers.
pub record Buffers (left : List ℤ) (old : List ℕ) : Type 0 where
  pub cells : length left ≡ 8192
  pub numbers : length old ≡ 1024

-- Row k is in the run, and there is room for a row after m.
pub record Placed (columns : ℕ) (rows : List ℤ) (k m : ℕ) : Type 0 where
  pub few : columns ≤ 8
  pub in_run : k * columns + columns ≤ length rows
  pub low : k < 1024
  pub room : m < 1024

-- Of the first k rows, the m that are left, and their old numbers, begin the two buffers.
pub record Gathered (columns : ℕ) (rows : List ℤ) (stays : ℕ → Bool) (k m : ℕ) (left : List ℤ) (old : List ℕ)
    : Type 0 where
  pub count : m ≡ count_below k stays
  pub cells : take (m * columns) left ≡ left_below columns rows stays k
  pub numbers : take m old ≡ list_below k stays

-- An entry for each of the m rows that are left, and one for each of their old numbers.
pub record OldNumbers (old : List ℕ) (m : ℕ) (entries again : List ℕ) : Type 0 where
  pub most : m ≤ 1024
  pub long : m ≤ length again
  pub within : (i : ℕ) → i < m → get_or old i 0 < length entries
