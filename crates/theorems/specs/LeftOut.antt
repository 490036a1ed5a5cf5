-- What is said of rows left out and of catalogues (SPECIFICATION, "Leaving out rows"), in its words.
use Rattle.std.specs.Prelude.{◌≡◌, Bool, true, List, ◌++◌, ℕ, ◌<◌, ℤ, get_or}
use Rattle.model.specs.Search.{count_below}
use Rattle.model.specs.Query.{kept, answer, kept_count, row_count, row_at, query_reply, query_buffer}
use Rattle.model.specs.Demand.{keeps}
use Rattle.model.specs.Leaving.{left_rows, old_number, kept_rows, by_catalogue}
use Rattle.laws.specs.Leaving.{left_beats}
use Rattle.theorems.specs.Asked.{Asked}

-- "The rows that are left being numbered from 0 again in their old order", of n rows: those of which the test holds.
pub record Renumbered (n : ℕ) (stays : ℕ → Bool) : Type 0 where
  -- Each of the new numbers is that of a row that is left,
  pub is_left : (i : ℕ) → i < count_below n stays → (old_number n stays i < n) × (stays (old_number n stays i) ≡ true)
  -- each row that is left has one,
  pub has_number : (k : ℕ) → k < n → stays k ≡ true → (i : ℕ) × (i < count_below n stays) × (old_number n stays i ≡ k)
  -- and their order is the old one.
  pub in_order : (i j : ℕ) → i < j → j < count_below n stays → old_number n stays i < old_number n stays j

-- Of the query over all rows, `a` being its answer buffer, and of the one over the rows that are left, with `b`: same table,
-- term and group byte.
pub record SameAnswers (table : List ℕ) (columns : ℕ) (rows : List ℤ) (term group : ℕ) (stays : ℕ → Bool) (a b : List ℕ)
    : Type 0 where
  -- Query takes the rows that are left. They are "numbered from 0 again in their old order":
  pub is_asked : Asked table columns (left_rows columns rows stays) term group
  pub numbers : Renumbered (row_count columns rows) stays
  pub is_count : row_count columns (left_rows columns rows stays) ≡ count_below (row_count columns rows) stays
  pub is_row : (i : ℕ) → i < count_below (row_count columns rows) stays
      → row_at columns (left_rows columns rows stays) i ≡ row_at columns rows (old_number (row_count columns rows) stays i)
  -- "The same rows are kept": as many, the same as runs, and a row that is left is kept exactly when it was.
  pub same_reply : query_reply table columns (left_rows columns rows stays) term group b
      ≡ query_reply table columns rows term group a
  pub same_rows : kept_rows table columns (left_rows columns rows stays) term group b
      ≡ kept_rows table columns rows term group a
  pub same_kept : (i : ℕ) → i < count_below (row_count columns rows) stays
      → keeps table columns (left_rows columns rows stays) term group b i
      ≡ keeps table columns rows term group a (old_number (row_count columns rows) stays i)
  -- "Each remaining dropped row names the same better row": each entry is the number of a row that is left, and its old
  -- number is the entry that the row had. A kept row's entry is its own number in both.
  pub is_entry : (i : ℕ) → i < count_below (row_count columns rows) stays
      → get_or (query_buffer table columns (left_rows columns rows stays) term group b) i 0
      < count_below (row_count columns rows) stays
  pub same_entry : (i : ℕ) → i < count_below (row_count columns rows) stays
      → old_number (row_count columns rows) stays
      (get_or (query_buffer table columns (left_rows columns rows stays) term group b) i 0)
      ≡ get_or (query_buffer table columns rows term group a) (old_number (row_count columns rows) stays i) 0

-- The same of any n rows and any relation between them, `beats j i` being "j beats i".
pub record SameAnswersOf (n : ℕ) (beats : ℕ → ℕ → Bool) (stays : ℕ → Bool) : Type 0 where
  pub numbers : Renumbered n stays
  pub same_count : kept_count (count_below n stays) (left_beats n stays beats) ≡ kept_count n beats
  pub same_kept : (i : ℕ) → i < count_below n stays
      → kept (count_below n stays) (left_beats n stays beats) i ≡ kept n beats (old_number n stays i)
  pub is_entry : (i : ℕ) → i < count_below n stays
      → answer (count_below n stays) (left_beats n stays beats) i < count_below n stays
  pub same_entry : (i : ℕ) → i < count_below n stays
      → old_number n stays (answer (count_below n stays) (left_beats n stays beats) i)
      ≡ answer n beats (old_number n stays i)

-- "Two catalogues separately and then their kept rows together": the kept rows of the first, then those of the second, each
-- queried with a buffer of its own.
abbrev pub together : List ℕ → ℕ → List ℤ → List ℤ → ℕ → ℕ → List ℕ → List ℕ → List ℤ
together table columns first second term group p q =
    kept_rows table columns first term group p ++ kept_rows table columns second term group q

-- Row i of both, one after the other, is kept by the query over its own.
abbrev pub kept_apart : List ℕ → ℕ → List ℤ → List ℤ → ℕ → ℕ → List ℕ → List ℕ → ℕ → Bool
kept_apart table columns first second term group p q =
    by_catalogue (row_count columns first) (keeps table columns first term group p) (keeps table columns second term group q)
