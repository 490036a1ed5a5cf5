-- The buffers of the direct engine before the first round.
use Rattle.std.specs.Prelude.{◌≡◌, List, ℕ, ◌≤◌, ◌<◌, get_or, length}

-- No row is gone, and there is room for n rows: for those that are gone, the rows that beat them, and the kept ones.
pub record Cleared (n : ℕ) (gone : List ℕ) (by kept : ℕ) : Type 0 where
  pub none : (j : ℕ) → j < n → get_or gone j 0 ≡ 0
  pub of_gone : n ≤ length gone
  pub of_by : n ≤ by
  pub of_kept : n ≤ kept
