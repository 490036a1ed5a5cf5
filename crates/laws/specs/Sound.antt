-- Sound terms: what the check makes sure of by CLASH, LOOP, APART and COLUMN (SPECIFICATION, "What a call refuses"), said
-- of the tree of terms. Assumes nothing.
use Rattle.std.specs.Prelude.{◌≡◌, Bool, true, not, ◌&&◌, List, [], ◌∷◌, ℕ, ltb, eqb}
use Rattle.std.proofs.Common.{eqb-true}
use Rattle.model.specs.declared.{Value.Value, BaseTerm.BaseTerm, Pair.Pair}
use Rattle.model.specs.declared.BaseTerm.TheVariants.{Lowest, Highest, Around, Between, Pos, Neg, PosNeg, PosPos}
use Rattle.model.specs.declared.BaseTerm.TheVariants.{Explicit, Any}
use Rattle.model.specs.declared.Pair.TheVariants.{Pareto, Prior, Both}
use Rattle.model.specs.Search.{any_in}
use Rattle.model.specs.Term.{Term, base, pair, dual, columns_of}
use Rattle.model.specs.Check.{clash, closes_cycle}
use Rattle.laws.specs.Bools.{and_l, and_r, and_i}

-- No edge closes a cycle with itself or the edges after it in the list (the last one added stands first).
unfoldable pub acyclic : List Value → Bool
acyclic [] = true
acyclic (e ∷ edges) = not (closes_cycle edges e) && acyclic edges

-- No value stands under two roles.
unfoldable pub unclashed : List Value → Bool
unclashed [] = true
unclashed (a ∷ values) = not (any_in values (clash a)) && unclashed values

-- A base term whose values the check lets pass.
unfoldable pub sound_base : BaseTerm → List Value → Bool
sound_base Lowest values = true
sound_base Highest values = true
sound_base (Around wish) values = true
sound_base (Between low up) values = true
sound_base Pos values = true
sound_base Neg values = true
sound_base PosNeg values = unclashed values
sound_base PosPos values = unclashed values
sound_base Explicit edges = acyclic edges
sound_base Any values = true

-- BOTH's parts read the same columns.
unfoldable pub fits : Pair → ℕ → ℕ → Bool
fits Pareto l r = true
fits Prior l r = true
fits Both l r = eqb l r

-- Every base term beneath is sound, and every BOTH fits.
unfoldable pub sound : Term → Bool
sound (base column b values) = sound_base b values
sound (pair op l r) = fits op (columns_of l) (columns_of r) && (sound l && sound r)
sound (dual t) = sound t

-- Every column that the term reads is below the count.
unfoldable pub within : ℕ → Term → Bool
within columns (base column b values) = ltb column columns
within columns (pair op l r) = within columns l && within columns r
within columns (dual t) = within columns t

-- A sound compound's left
pub sound-left : (op : Pair) (l r : Term) → sound (pair op l r) ≡ true → sound l ≡ true
unfolding sound
sound-left op l r s = and_l _ (sound r) (and_r (fits op (columns_of l) (columns_of r)) _ s)

-- and right are sound,
pub sound-right : (op : Pair) (l r : Term) → sound (pair op l r) ≡ true → sound r ≡ true
unfolding sound
sound-right op l r s = and_r (sound l) _ (and_r (fits op (columns_of l) (columns_of r)) _ s)

-- and BOTH's parts read the same columns.
pub sound-fits : (l r : Term) → sound (pair Both l r) ≡ true → columns_of l ≡ columns_of r
unfolding sound fits
sound-fits l r s = eqb-true (columns_of l) (columns_of r) (and_l _ (sound l && sound r) s)

-- PARETO
pub sound-pareto : (l r : Term) → sound l ≡ true → sound r ≡ true → sound (pair Pareto l r) ≡ true
unfolding sound fits
sound-pareto l r p q = and_i p q

-- and PRIOR of sound parts are sound.
pub sound-prior : (l r : Term) → sound l ≡ true → sound r ≡ true → sound (pair Prior l r) ≡ true
unfolding sound fits
sound-prior l r p q = and_i p q
