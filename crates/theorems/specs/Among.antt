-- "Keeps among the rows equal in the first's columns" in words, as a test and as a query (SPECIFICATION, "The third
-- promise, word by word"). Assumes nothing.
use Rattle.std.specs.Prelude.{◌≡◌, ◌↔◌, true, List, ℕ, ℤ}
use Rattle.std.specs.Int.Bits.{bit_or}
use Rattle.model.specs.Term.{Term, term_at, columns_of}
use Rattle.model.specs.Better.{equal}
use Rattle.model.specs.Query.{row_count, row_at, beats_in}
use Rattle.model.specs.Demand.{keeps_among}
use Rattle.laws.specs.Bools.{and_l, and_r, and_i}
use Rattle.laws.specs.Columns.{columns-below, equal-cells}
use Rattle.laws.specs.Select.{kept-unbeaten}
use Rattle.laws.specs.Rows.{beats_among}
use Rattle.laws.specs.Accepted.{accepted-true}
use Rattle.laws.proofs.AcceptedTerms.{accepted-term}
use Rattle.laws.specs.Among.{group-or}
use Rattle.theorems.specs.Strictly.{TermRecord}
use Rattle.theorems.specs.Asked.{Asked, KeepsAmong}
use Rattle.theorems.specs.Dropped.{beaten-by, by-beaten}

module _ (table : List ℕ) (columns : ℕ) (rows : List ℤ) (first second group i : ℕ) where
  abbrev l : Term
  l = term_at table first

  abbrev r : Term
  r = term_at table second

  -- The test is the sentence.
  pub among-words : (keeps_among table columns rows first second group i ≡ true)
      ↔ KeepsAmong table columns rows first second group i
  unfolding keeps_among
  among-words =
      let x = row_at columns rows in
      let w = kept-unbeaten (row_count columns rows) (beats_among l r columns rows group) i in (
        λ k j e b. w.0 k j b.is_row
            (and_i ((equal-cells l (x i) (x j)).1 e) (by-beaten table columns rows second group i j b)),
        λ u. w.1 (λ j h b. u j ((equal-cells l (x i) (x j)).0 (and_l _ (beats_in r columns rows group j i) b))
            (beaten-by table columns rows second group i j h (and_r (equal l (x i) (x j)) _ b))),
      )

-- The second can be asked for with the bits of the first's columns set in the group byte too.
pub wider-asked : (table : List ℕ) (columns : ℕ) (rows : List ℤ) (first second group : ℕ)
    → TermRecord table columns first → Asked table columns rows second group
    → Asked table columns rows second (bit_or group (columns_of (term_at table first)))
wider-asked table columns rows first second group t asked =
    record {
      of_term = asked.of_term;
      rows_fit = asked.rows_fit;
      group_fits = group-or columns group (columns_of (term_at table first))
          (columns-below columns (term_at table first)
          (accepted-term table columns ((accepted-true table columns).0 t.is_accepted) first t.below t.is_record
          ).is_within)
          asked.group_fits;
    }
