-- What Query takes, in the words of the third promise; "beaten" as a test; and every dropped row is beaten by a kept row
-- of the set. Assumes nothing.
-- What a reader or a contract cites stands in specs/Dropped.
use Rattle.std.specs.Prelude.{◌≡◌, refl, true, false, List, ℕ, ◌<◌, ℤ, get_or, Ok}
use Rattle.model.specs.Term.{term_at}
use Rattle.model.specs.Query.{LowestKept, row_count, beats_in, query_verdict, query_buffer}
use Rattle.model.specs.Demand.{keeps}
use Rattle.laws.specs.Taken.{Taken, taken-from}
use Rattle.laws.proofs.Answered.{keeps-unbeaten, drops-name-lowest}
use Rattle.theorems.specs.Asked.{Asked, Long, BeatenBy}
use Rattle.theorems.specs.Ordered.{taken}
use Rattle.theorems.specs.Dropped.{beaten-by}

module _ (table : List ℕ) (columns : ℕ) (rows : List ℤ) (term group : ℕ) (asked : Asked table columns rows term group)
    (before : List ℕ) (long : Long columns rows before) where
  -- Query takes it
  pub query-takes : Taken table columns rows term group before
  query-takes =
      record {
        of_term = taken table columns term asked.of_term;
        rows_fit = asked.rows_fit;
        group_fits = asked.group_fits;
        long = long;
      }

  -- and refuses nothing.
  pub query-passes : query_verdict table columns rows term group before ≡ Ok tt
  query-passes = taken-from table columns rows term group before query-takes

  -- Every dropped row is beaten by a kept row of the set, the one that its entry names.
  pub dropped-beaten-by-kept : (i : ℕ) → i < row_count columns rows → keeps table columns rows term group before i ≡ false
      → (j : ℕ) × BeatenBy table columns rows term group i j × (keeps table columns rows term group before j ≡ true)
      × (get_or (query_buffer table columns rows term group before) i 0 ≡ j)
  dropped-beaten-by-kept i h d = (
    entry,
    beaten-by table columns rows term group i entry lowest.row lowest.better,
    (keeps-unbeaten table columns rows term group before query-passes entry lowest.row).1 lowest.keeps,
    refl,
  )
    where
      entry : ℕ
      entry = get_or (query_buffer table columns rows term group before) i 0

      lowest : LowestKept (row_count columns rows) (beats_in (term_at table term) columns rows group) i entry
      lowest = drops-name-lowest table columns rows term group before query-passes i 0 h d
