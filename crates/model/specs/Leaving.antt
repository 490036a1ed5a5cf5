-- Rows left out, and two catalogues (SPECIFICATION, "Leaving out rows"): the words of those sentences. What is claimed of
-- them stands in `theorems`.
use Rattle.std.specs.Prelude.{◌-◌, ◌++◌}
use Rattle.model.specs.Words.{Bool, cond, ℕ, zero, suc, List, [], ltb, ℤ, get_or}
use Rattle.model.specs.Search.{list_below}
use Rattle.model.specs.Query.{row_count, row_at}
use Rattle.model.specs.Demand.{keeps}

-- Those of the first n rows that are left, row after row in their old order.
unfoldable pub left_below : ℕ → List ℤ → (ℕ → Bool) → ℕ → List ℤ
left_below columns rows stays zero = []
left_below columns rows stays (suc n) = left_below columns rows stays n ++ cond (stays n) (row_at columns rows n) []

-- "The rows that are left", as a run: those of which the test holds.
unfoldable pub left_rows : ℕ → List ℤ → (ℕ → Bool) → List ℤ
left_rows columns rows stays = left_below columns rows stays (row_count columns rows)

-- "Numbered from 0 again in their old order": the old number of the row that has number i now, of n rows.
unfoldable pub old_number : ℕ → (ℕ → Bool) → ℕ → ℕ
old_number n stays i = get_or (list_below n stays) i 0

-- "Their kept rows": the rows that Query keeps, as a run.
unfoldable pub kept_rows : List ℕ → ℕ → List ℤ → ℕ → ℕ → List ℕ → List ℤ
kept_rows table columns rows term group before = left_rows columns rows (keeps table columns rows term group before)

-- "Two catalogues separately": row i, the second's rows numbered after the n of the first, by the test of its own catalogue.
unfoldable pub by_catalogue : ℕ → (ℕ → Bool) → (ℕ → Bool) → ℕ → Bool
by_catalogue n first second i = cond (ltb i n) (first i) (second (i - n))
