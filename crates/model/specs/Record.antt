-- A table's records (SPECIFICATION, "The table"): the fields, what they stand for, and which values belong to which
-- term.
use Rattle.std.specs.Prelude.{◌+◌, ◌*◌, ◌/◌, ◌∷◌, ◌++◌}
use Rattle.model.specs.Words.{Bool, true, false, cond, ℕ, zero, suc, List, [], eqb, ℤ, length, Value, Record, Lowest, Highest, Around, Between, Pos, Neg, PosNeg, PosPos}
use Rattle.model.specs.Words.{Explicit, Any, Pareto, Prior, Both, Joined, Dual, Base, Compound, Unknown}
use Rattle.model.specs.Bytes.{byte_at, word_at, signed}

-- A table is a run of 12-byte records with no header, numbered from 0: how many there are.
unfoldable pub record_count : List ℕ → ℕ
record_count table = length table / 12

-- Byte 0 is the kind. Bytes 1 to 3 are p, q and s. Bytes 4 to 7 are u and 8 to 11 are v.
unfoldable pub kind_at : List ℕ → ℕ → ℕ
kind_at table k = byte_at table (12 * k)

unfoldable pub p_at : List ℕ → ℕ → ℕ
p_at table k = byte_at table (12 * k + 1)

unfoldable pub q_at : List ℕ → ℕ → ℕ
q_at table k = byte_at table (12 * k + 2)

unfoldable pub s_at : List ℕ → ℕ → ℕ
s_at table k = byte_at table (12 * k + 3)

unfoldable pub u_at : List ℕ → ℕ → ℤ
u_at table k = signed (word_at table (12 * k + 4))

unfoldable pub v_at : List ℕ → ℕ → ℤ
v_at table k = signed (word_at table (12 * k + 8))

-- The kinds and what their fields hold.
unfoldable pub record_of : ℕ → ℕ → ℕ → ℤ → ℤ → Record
record_of kind p q u v =
    cond (eqb kind 0) (Record.Value (record { role = p; u = u; v = v }))
    (cond (eqb kind 1) (Base p Lowest)
    (cond (eqb kind 2) (Base p Highest)
    (cond (eqb kind 3) (Base p (Around u))
    (cond (eqb kind 4) (Base p (Between u v))
    (cond (eqb kind 5) (Base p Pos)
    (cond (eqb kind 6) (Base p Neg)
    (cond (eqb kind 7) (Base p PosNeg)
    (cond (eqb kind 8) (Base p PosPos)
    (cond (eqb kind 9) (Base p Explicit)
    (cond (eqb kind 10) (Base p Any)
    (cond (eqb kind 16) (Compound (Joined Pareto p q))
    (cond (eqb kind 17) (Compound (Joined Prior p q))
    (cond (eqb kind 18) (Compound (Joined Both p q))
    (cond (eqb kind 19) (Compound (Dual p))
    Unknown))))))))))))))

-- Record k.
unfoldable pub record_at : List ℕ → ℕ → Record
record_at table k = record_of (kind_at table k) (p_at table k) (q_at table k) (u_at table k) (v_at table k)

-- The term records are those of base and compound terms.
abbrev pub is_term : Record → Bool
is_term (Record.Value a) = false
is_term (Base column b) = true
is_term (Compound c) = true
is_term Unknown = false

-- The parts of a record, by their numbers: left and right, or the one.
abbrev pub parts_of : Record → List ℕ
parts_of (Record.Value a) = []
parts_of (Base column b) = []
parts_of (Compound (Joined op p q)) = p ∷ q ∷ []
parts_of (Compound (Dual p)) = p ∷ []
parts_of Unknown = []

-- POS takes role 1; NEG 2; POS/NEG 1 and 2; POS/POS 1 and 3; EXPLICIT 4; all others none.
abbrev pub roles_of : Record → List ℕ
roles_of (Record.Value a) = []
roles_of (Base column Lowest) = []
roles_of (Base column Highest) = []
roles_of (Base column (Around wish)) = []
roles_of (Base column (Between low up)) = []
roles_of (Base column Pos) = 1 ∷ []
roles_of (Base column Neg) = 2 ∷ []
roles_of (Base column PosNeg) = 1 ∷ 2 ∷ []
roles_of (Base column PosPos) = 1 ∷ 3 ∷ []
roles_of (Base column Explicit) = 4 ∷ []
roles_of (Base column Any) = []
roles_of (Compound c) = []
roles_of Unknown = []

-- The value of a value record.
abbrev pub value_in : Record → List Value
value_in (Record.Value a) = a ∷ []
value_in (Base column b) = []
value_in (Compound c) = []
value_in Unknown = []

-- Value records belong to the nearest term record before them: its number, for value record k. It is 0 where no term
-- stands before; record 0 is then no term itself.
unfoldable pub nearest_term : List ℕ → ℕ → ℕ
nearest_term table zero = 0
nearest_term table (suc k) = cond (is_term (record_at table k)) k (nearest_term table k)

-- The values of term record t among the first k records, the last one first.
unfoldable pub values_of : List ℕ → ℕ → ℕ → List Value
values_of table t zero = []
values_of table t (suc k) = cond (eqb (nearest_term table k) t) (value_in (record_at table k)) [] ++ values_of table t k
