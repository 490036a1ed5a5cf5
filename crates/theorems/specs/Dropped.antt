-- What Query takes, in the words of the third promise; "beaten" as a test; and every dropped row is beaten by a kept row
-- of the set. Assumes nothing.
use Rattle.std.specs.Prelude.{◌≡◌, true, List, ℕ, ◌<◌, ℤ}
use Rattle.model.specs.Term.{term_at}
use Rattle.model.specs.Query.{row_count, row_at, beats_in}
use Rattle.laws.specs.Masks.{equal_in-cells}
use Rattle.laws.specs.Rows.{beats-group, beats-better, beats-i}
use Rattle.theorems.specs.Asked.{BeatenBy}

module _ (table : List ℕ) (columns : ℕ) (rows : List ℤ) (term group i j : ℕ) where
  -- What the test says of a row,
  pub beaten-by : j < row_count columns rows → beats_in (term_at table term) columns rows group j i ≡ true
      → BeatenBy table columns rows term group i j
  beaten-by h b =
      record {
        is_row = h;
        same_set = (equal_in-cells group (row_at columns rows i) (row_at columns rows j)).0
            (beats-group columns rows group (term_at table term) j i b);
        is_better = beats-better columns rows group (term_at table term) j i b;
      }

  -- and the other way.
  pub by-beaten : BeatenBy table columns rows term group i j → beats_in (term_at table term) columns rows group j i ≡ true
  by-beaten b =
      beats-i columns rows group (term_at table term) j i
      ((equal_in-cells group (row_at columns rows i) (row_at columns rows j)).1 b.same_set) b.is_better
