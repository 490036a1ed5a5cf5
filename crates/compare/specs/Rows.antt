-- What the comparison of two rows rests on, and the code of a record from those of its parts (codes as in
-- laws/specs/Codes.antt).
use Rattle.std.specs.Prelude.{◌≡◌, Bool, List, ℕ, ◌<◌, ℤ, length, get_or}
use Rattle.model.specs.declared.{Value.Value, BaseTerm.BaseTerm, CompoundTerm.CompoundTerm, Record.Record}
use Rattle.model.specs.declared.CompoundTerm.TheVariants.{Joined, Dual}
use Rattle.model.specs.declared.Record.TheVariants.{Base, Compound, Unknown}
use Rattle.model.specs.Record.{record_at}
use Rattle.model.specs.Better.{Row, cell}
use Rattle.laws.specs.Codes.{turned_code, joined_code}
use Rattle.laws.specs.Taken.{TakenTerm}
use Rattle.terms.specs.Prepared.{Numbers, RunEnds, Reached}
use Rattle.laws.specs.ValueCodes.{value_code}
use Rattle.terms.specs.Places.{BaseTermAt}

-- The number given is a term record of a table that is accepted for rows of the first one's length, and the second has it too.
pub record Asked (table : List ℕ) (term : ℕ) (first second : Row) : Type 0 where
  pub taken : TakenTerm table (length first) term
  pub same_length : length second ≡ length first

-- The same, and what is prepared of the table's values is handed in.
pub record Ready (table : List ℕ) (numbers : List ℤ) (ends : List ℕ) (reach : List (List Bool)) (term : ℕ)
    (first second : Row) : Type 0 where
  pub asked : Asked table term first second
  pub prepared : Numbers table numbers
  pub runs : RunEnds table ends
  pub reached : Reached table ends reach

-- The parts of a compound are below the limit.
abbrev pub PartsBelow : ℕ → CompoundTerm → Type 0
PartsBelow limit (Joined op p q) = (p < limit) × (q < limit)
PartsBelow limit (Dual p) = p < limit

-- What the code of record k asks for.
pub record RecordReady (table : List ℕ) (numbers : List ℤ) (ends : List ℕ) (reach : List (List Bool)) (k : ℕ)
    (first second : Row) : Type 0 where
  pub below : k < 128
  pub of_base : (column : ℕ) (b : BaseTerm) → record_at table k ≡ Base column b
      → BaseTermAt table numbers reach k (get_or ends k 0) b × (column < length first) × (column < length second)
  pub of_compound : (c : CompoundTerm) → record_at table k ≡ Compound c → PartsBelow 128 c

-- A compound's code from its parts' codes.
abbrev pub compound_code : CompoundTerm → (ℕ → ℕ) → ℕ
compound_code (Joined op p q) part = joined_code op (part p) (part q)
compound_code (Dual p) part = turned_code (part p)

-- A record's code, from its values or its parts' codes. A record that is no term has none: 0.
abbrev pub record_code : Record → List Value → (ℕ → ℕ) → Row → Row → ℕ
record_code (Record.Value a) values part x y = 0
record_code (Base column b) values part x y = value_code b values (cell x column) (cell y column)
record_code (Compound c) values part x y = compound_code c part
record_code Unknown values part x y = 0
