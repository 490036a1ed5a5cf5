-- What a reply of Perfect says (SPECIFICATION, "Perfect").
use Rattle.std.specs.Prelude.{◌≡◌, false, List, ℕ, Ok}
use Rattle.model.specs.Words.{PerfectReply}
use Rattle.model.specs.declared.Mark.{Mark}
use Rattle.model.specs.Term.{term_at}
use Rattle.model.specs.Better.{Row}
use Rattle.model.specs.Perfect.{Perfect}

-- What the reply says of the row: "in every base term beneath the asked term, no 32-bit value is better than the row's;
-- beneath an odd number of DUALs, none is worse", or that this is not so.
pub record Says (table : List ℕ) (term : ℕ) (row : Row) (r : PerfectReply) : Type 0 where
  pub yes : r ≡ Ok Mark.Yes → Perfect false (term_at table term) row
  pub no : r ≡ Ok Mark.No → Perfect false (term_at table term) row → ⊥
