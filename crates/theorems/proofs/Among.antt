-- "Keeps among the rows equal in the first's columns" in words, as a test and as a query (SPECIFICATION, "The third
-- promise, word by word"). Assumes nothing.
-- What a reader or a contract cites stands in specs/Among.
use Rattle.std.specs.Prelude.{◌≡◌, ◌↔◌, true, List, ℕ, ◌<◌, ℤ}
use Rattle.std.specs.Int.Bits.{bit_or}
use Rattle.model.specs.Term.{term_at, columns_of}
use Rattle.model.specs.Query.{row_count}
use Rattle.model.specs.Demand.{keeps, keeps_among}
use Rattle.laws.proofs.Among.{keeps-among-by-query}
use Rattle.theorems.specs.Strictly.{TermRecord}
use Rattle.theorems.specs.Asked.{Asked, Long, KeepsAmong}
use Rattle.theorems.proofs.Dropped.{query-passes}
use Rattle.theorems.specs.Among.{among-words}

-- Query on the second gives it when the bits of those columns are set in the group byte too.
pub second-by-group : (table : List ℕ) (columns : ℕ) (rows : List ℤ) (first second group : ℕ)
    → TermRecord table columns first → Asked table columns rows second group
    → (i : ℕ) → i < row_count columns rows → (before : List ℕ) → Long columns rows before
    → (keeps_among table columns rows first second group i
    ≡ keeps table columns rows second (bit_or group (columns_of (term_at table first))) before i)
    × ((keeps_among table columns rows first second group i ≡ true) ↔ KeepsAmong table columns rows first second group i)
second-by-group table columns rows first second group t asked i h before long = (
  keeps-among-by-query table columns rows first second group before
      (query-passes table columns rows second group asked before long) t.below t.is_record i h,
  among-words table columns rows first second group i,
)
