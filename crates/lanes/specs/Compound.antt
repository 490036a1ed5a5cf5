-- The code of a compound that is written in lane j, from the codes of its parts at l and r.
use Rattle.std.specs.Prelude.{List, ℕ, ◌+◌, ◌*◌, get_or}
use Rattle.model.specs.declared.{CompoundTerm.CompoundTerm, Pair.Pair}
use Rattle.model.specs.declared.CompoundTerm.TheVariants.{Joined, Dual}
use Rattle.laws.specs.Codes.{turned_code, joined_code}

-- By the kind of compound.
unfoldable pub joined_lane : Pair → List ℕ → ℕ → ℕ → ℕ → ℕ
joined_lane op codes l r j = joined_code op (get_or codes (l + j) 0) (get_or codes (r + j) 0)

unfoldable pub turned_lane : List ℕ → ℕ → ℕ → ℕ
turned_lane codes l j = turned_code (get_or codes (l + j) 0)

-- A compound's, where each record has `count` codes.
abbrev pub compound_lane : ℕ → CompoundTerm → List ℕ → ℕ → ℕ
compound_lane count (Joined op p q) codes j = joined_lane op codes (p * count) (q * count) j
compound_lane count (Dual p) codes j = turned_lane codes (p * count) j
