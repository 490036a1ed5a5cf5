-- The parts of a compound, if there is one, and the lists of the model by the enum that a record holds.
use Rattle.std.specs.Prelude.{List, [], ℕ, Option, Some, None}
use Rattle.model.specs.declared.{BaseTerm.BaseTerm, CompoundTerm.CompoundTerm}
use Rattle.model.specs.Record.{parts_of, roles_of}
use Rattle.model.specs.declared.Record.TheVariants.{Base, Compound}

abbrev pub parts_in : Option CompoundTerm → List ℕ
parts_in None = []
parts_in (Some c) = parts_of (Compound c)

abbrev pub roles_in : BaseTerm → List ℕ
roles_in b = roles_of (Base 0 b)
