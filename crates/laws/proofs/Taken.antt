-- What a call takes (SPECIFICATION, "What a call refuses"): a call that asks for a term refuses nothing exactly when the
-- table is accepted, the number given is a term record, and the rows, the group byte and the buffer fit. Assumes nothing.
-- What a reader or a contract cites stands in specs/Taken.
use Rattle.std.specs.Prelude.{◌≡◌, true, List, ℕ, ℤ}
use Rattle.model.specs.Term.{term_at}
use Rattle.laws.specs.Sound.{sound, within}
use Rattle.laws.proofs.Strict.{ordered}
use Rattle.laws.specs.Query.{Asked}
use Rattle.laws.proofs.AcceptedTerms.{accepted-sound}
use Rattle.laws.specs.Taken.{TakenTerm, Taken, taken-from}

-- A term that a call takes is sound, over at most 8 columns.
pub taken-sound : (table : List ℕ) (columns term : ℕ) → TakenTerm table columns term
    → (sound (term_at table term) ≡ true) × (within 8 (term_at table term) ≡ true)
taken-sound table columns term t = accepted-sound table columns t.is_accepted term t.below t.is_record

-- So it orders the rows strictly: the laws of Query hold.
pub taken-asked : (table : List ℕ) (columns : ℕ) (rows : List ℤ) (term group : ℕ) (before : List ℕ)
    → Taken table columns rows term group before → Asked table columns rows term group before
taken-asked table columns rows term group before t =
    let s = taken-sound table columns term t.of_term in
    record {
      passed = taken-from table columns rows term group before t;
      long = t.long;
      strict = (ordered (term_at table term) s.0 s.1).strict;
    }
