-- The marks of a table's terms, record by record (SPECIFICATION, "Perfect").
use Rattle.std.specs.Prelude.{◌≡◌, Bool, true, false, ◌&&◌, List, ℕ}
use Rattle.model.specs.declared.{Record.Record, Value.Value, CompoundTerm.CompoundTerm}
use Rattle.model.specs.declared.Record.TheVariants.{Base, Compound, Unknown}
use Rattle.model.specs.declared.CompoundTerm.TheVariants.{Joined, Dual}
use Rattle.model.specs.Bytes.{Value32}
use Rattle.model.specs.Record.{is_term}
use Rattle.model.specs.Better.{Row, cell}
use Rattle.laws.specs.Taken.{TakenTerm}
use Rattle.terms.specs.Run.{Values}
use Rattle.perfect.specs.Base.{base_mark}

-- Of a compound, from its parts' own marks and, for DUAL, the other ones.
abbrev pub parts_mark : CompoundTerm → (ℕ → Bool) → (ℕ → Bool) → Bool
parts_mark (Joined op p q) own other = own p && own q
parts_mark (Dual p) own other = other p

-- Of a record; what is no term has none.
abbrev pub record_mark : (odd : Bool) → Record → List Value → Row → (ℕ → Bool) → (ℕ → Bool) → Bool
record_mark odd (Record.Value a) values row own other = false
record_mark odd (Base column b) values row own other = base_mark odd b values (cell row column)
record_mark odd (Compound c) values row own other = parts_mark c own other
record_mark odd Unknown values row own other = false

-- The row's value that a base term looks at is a 32-bit number.
abbrev pub CellFits : Record → Row → Type 0
CellFits (Record.Value a) row = Unit {0}
CellFits (Base column b) row = Value32 (cell row column)
CellFits (Compound c) row = Unit {0}
CellFits Unknown row = Unit {0}

-- Record r is to be marked: if it is a term, its values are the records from k + 1 to before e.
pub record Marking (table : List ℕ) (k e : ℕ) (r : Record) : Type 0 where
  pub values : is_term r ≡ true → Values table k e

-- The check has accepted the table for some number of columns, and the number given is a term record of it.
pub record Asked (table : List ℕ) (term : ℕ) : Type 0 where
  pub columns : ℕ
  pub taken : TakenTerm table columns term
