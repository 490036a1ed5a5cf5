-- FILLER as a table: which of q, s, u and v must be zero. p is filled for every kind.
use Rattle.std.specs.Prelude.{◌≡◌, Bool, cond, ◌&&◌, ◌||◌, List, ℕ, ◌+◌, ◌-◌, ◌/◌, ◌%◌, ◌<◌, eqb, ltb, leb, pos, get_or}
use Rattle.model.specs.declared.Record.{Record}
use Rattle.model.specs.declared.BaseTerm.TheVariants.{Lowest, Highest, Around, Between, Pos, Neg, PosNeg, PosPos}
use Rattle.model.specs.declared.BaseTerm.TheVariants.{Explicit, Any}
use Rattle.model.specs.declared.CompoundTerm.TheVariants.{Joined, Dual}
use Rattle.model.specs.declared.Record.TheVariants.{Base, Compound, Unknown}
use Rattle.model.specs.Record.{record_of}

-- The fields q, s, u and v are 2, 4, 8 and 16. Whether a field is one of these.
unfoldable pub has_field : ℕ → ℕ → Bool
has_field fields field = eqb (fields / field % 2) 1

-- All four, for a record that fills p alone.
abbrev pub only_p : ℕ
only_p = 30

abbrev pub must_be_zero : Record → ℕ
must_be_zero (Record.Value a) = cond (eqb a.role 4) 6 22
must_be_zero (Base column Lowest) = only_p
must_be_zero (Base column Highest) = only_p
must_be_zero (Base column (Around wish)) = 22
must_be_zero (Base column (Between low up)) = 6
must_be_zero (Base column Pos) = only_p
must_be_zero (Base column Neg) = only_p
must_be_zero (Base column PosNeg) = only_p
must_be_zero (Base column PosPos) = only_p
must_be_zero (Base column Explicit) = only_p
must_be_zero (Base column Any) = only_p
must_be_zero (Compound (Joined op left right)) = 28
must_be_zero (Compound (Dual part)) = only_p
must_be_zero Unknown = 0

-- The kinds that there are.
unfoldable pub in_list : ℕ → Bool
in_list kind = ltb kind 11 || (leb 16 kind && ltb kind 20)

-- The constant table's row for such a kind and a role: 0 to 10 by their numbers, then an edge, then 16 to 19.
unfoldable pub row_of : ℕ → ℕ → ℕ
row_of kind role = cond (eqb kind 0 && eqb role 4) 11 (cond (ltb kind 11) kind (kind - 4))

-- What stands in it.
abbrev pub zero_row : ℕ → ℕ
zero_row row =
    cond (eqb row 11) (must_be_zero (record_of 0 4 0 (pos 0) (pos 0)))
    (cond (ltb row 11) (must_be_zero (record_of row 0 0 (pos 0) (pos 0))) (must_be_zero (record_of (row + 4) 0 0 (pos 0) (pos 0))))

-- The constant table: what stands in its rows.
abbrev pub ZeroRows : List ℕ → Type 0
ZeroRows rows = (row : ℕ) → row < 16 → get_or rows row 0 ≡ zero_row row
