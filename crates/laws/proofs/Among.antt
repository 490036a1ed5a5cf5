-- "Keeps among the rows equal in the first's columns" by Query on the second (SPECIFICATION, "The third promise, word
-- by word"). Assumes nothing.
-- What a reader or a contract cites stands in specs/Among.
use Rattle.std.specs.Prelude.{◌≡◌, true, List, ℕ, ◌<◌, ℤ, Ok}
use Rattle.std.proofs.Common.{sym, ◌∙◌}
use Rattle.std.specs.Int.Bits.{bit_or}
use Rattle.model.specs.Record.{record_count, record_at, is_term}
use Rattle.model.specs.Term.{term_at, columns_of}
use Rattle.model.specs.Query.{row_count, query_verdict}
use Rattle.model.specs.Demand.{keeps, keeps_among}
use Rattle.laws.specs.Columns.{columns-below}
use Rattle.laws.specs.Rows.{kept-among}
use Rattle.laws.specs.Query.{keeps-kept}
use Rattle.laws.proofs.AcceptedTerms.{accepted-term}
use Rattle.laws.specs.Taken.{Taken, taken-gives}
use Rattle.laws.proofs.Taken.{taken-asked}
use Rattle.laws.specs.Among.{group-or}

-- Query on the second gives it when the bits of those columns are set in the group byte too.
pub keeps-among-by-query : (table : List ℕ) (columns : ℕ) (rows : List ℤ) (first second group : ℕ) (before : List ℕ)
    → query_verdict table columns rows second group before ≡ Ok tt
    → first < record_count table → is_term (record_at table first) ≡ true
    → (i : ℕ) → i < row_count columns rows
    → keeps_among table columns rows first second group i
    ≡ keeps table columns rows second (bit_or group (columns_of (term_at table first))) before i
unfolding keeps_among
keeps-among-by-query table columns rows first second group before passed m r i h =
    kept-among columns rows group (term_at table first) (term_at table second) (row_count columns rows) i
    ∙ sym (keeps-kept table columns rows second (bit_or group (columns_of (term_at table first))) before
    (taken-asked table columns rows second (bit_or group (columns_of (term_at table first))) before wider) i h)
  where
    t : Taken table columns rows second group before
    t = taken-gives table columns rows second group before passed

    wider : Taken table columns rows second (bit_or group (columns_of (term_at table first))) before
    wider =
        record {
          of_term = t.of_term;
          rows_fit = t.rows_fit;
          group_fits = group-or columns group (columns_of (term_at table first))
              (columns-below columns (term_at table first)
              (accepted-term table columns t.of_term.is_accepted first m r).is_within) t.group_fits;
          long = t.long;
        }
