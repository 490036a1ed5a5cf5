-- The rank of a value under a base term, as a number of 32 bits: the lower is better. EXPLICIT's is a place among the ends
-- of its edges.
use Rattle.std.specs.Prelude.{◌≡◌, List, ℕ, ◌+◌, ◌*◌, ℤ, pos, negsuc, ◌-ℤ◌}
use Rattle.model.specs.declared.{Value.Value, BaseTerm.BaseTerm}
use Rattle.model.specs.declared.BaseTerm.TheVariants.{Lowest, Highest, Around, Between, Pos, Neg, PosNeg, PosPos}
use Rattle.model.specs.declared.BaseTerm.TheVariants.{Explicit, Any}
use Rattle.model.specs.Better.{distance, distance_between}
use Rattle.laws.specs.Runs.{values_between}
use Rattle.laws.specs.Ranks.{rank_pos, rank_neg, rank_pos_neg, rank_pos_pos}
use Rattle.terms.specs.Prepared.{EndPlace}

-- -1 - x
unfoldable pub mirror : ℤ → ℤ
mirror (pos a) = negsuc a
mirror (negsuc a) = pos a

-- A distance, moved into the range of 32 signed bits.
unfoldable pub centred : ℕ → ℤ
centred d = pos d -ℤ pos 2147483648

-- The rank under every base term but EXPLICIT.
unfoldable pub rank_of : BaseTerm → List Value → ℤ → ℤ
rank_of Lowest values x = x
rank_of Highest values x = mirror x
rank_of (Around wish) values x = centred (distance wish x)
rank_of (Between low up) values x = centred (distance_between low up x)
rank_of Pos values x = pos (rank_pos values x)
rank_of Neg values x = pos (rank_neg values x)
rank_of PosNeg values x = pos (rank_pos_neg values x)
rank_of PosPos values x = pos (rank_pos_pos values x)
rank_of Explicit values x = pos 0
rank_of Any values x = pos 0

-- r is a place of x among the ends of term k's edges, counted from the first.
pub record PlaceOf (table : List ℕ) (k e : ℕ) (x r : ℤ) : Type 0 where
  pub place : ℕ
  pub is : r ≡ pos place
  pub ends : EndPlace table k e x (2 * k + 2 + place)

-- r is the rank of x under base term k, whose values are the records from k + 1 to before e.
abbrev pub RankAt : List ℕ → ℕ → ℕ → BaseTerm → ℤ → ℤ → Type 0
RankAt table k e Lowest x r = r ≡ rank_of Lowest (values_between table k e) x
RankAt table k e Highest x r = r ≡ rank_of Highest (values_between table k e) x
RankAt table k e (Around wish) x r = r ≡ rank_of (Around wish) (values_between table k e) x
RankAt table k e (Between low up) x r = r ≡ rank_of (Between low up) (values_between table k e) x
RankAt table k e Pos x r = r ≡ rank_of Pos (values_between table k e) x
RankAt table k e Neg x r = r ≡ rank_of Neg (values_between table k e) x
RankAt table k e PosNeg x r = r ≡ rank_of PosNeg (values_between table k e) x
RankAt table k e PosPos x r = r ≡ rank_of PosPos (values_between table k e) x
RankAt table k e Explicit x r = PlaceOf table k e x r
RankAt table k e Any x r = r ≡ rank_of Any (values_between table k e) x
