-- The records in order with their number handed in, and what the summary of an accepted table rests on.
use Rattle.std.specs.Prelude.{Bool, false, not, ◌&&◌, List, ℕ, ◌*◌, ◌<◌, ◌≤◌, eqb, length, get_or}
use Rattle.model.specs.Words.{Verdict}
use Rattle.model.specs.Record.{record_count, record_at, is_term, nearest_term}
use Rattle.model.specs.Replies.{refusal}
use Rattle.model.specs.Check.{refuse_if, ◌then◌, each_below, judge, is_part, top_of}
use Rattle.terms.specs.Columns.{Narrow}

-- 14 LOOSE, of the first n records.
unfoldable pub loose_in : List ℕ → ℕ → ℕ → Bool
loose_in table n k = is_term (record_at table k) && not (eqb k (nearest_term table n)) && not (is_part table n k)

-- The same by what is carried up to the end: a term other than the nearest that is no part.
unfoldable pub loose_by : List Bool → List Bool → ℕ → ℕ → Bool
loose_by terms used near k = get_or terms k false && not (eqb k near) && not (get_or used k false)

-- The first n records for 3 to 13, then for 14.
unfoldable pub records_verdict : List ℕ → ℕ → ℕ → Verdict
records_verdict table columns n =
    each_below n (judge table columns) then each_below n (λ k. refuse_if (loose_in table n k) (refusal 14 k))

-- The first n records are there, and they and the columns are few.
pub record Counted (table : List ℕ) (columns n : ℕ) : Type 0 where
  pub few : n ≤ 128
  pub narrow : columns ≤ 8
  pub whole : 12 * n ≤ length table

-- The records are few, the top is one of them, and they read columns below 8.
pub record Summed (table : List ℕ) : Type 0 where
  pub few : record_count table ≤ 128
  pub top : top_of table < record_count table
  pub narrow : Narrow table (record_count table)
