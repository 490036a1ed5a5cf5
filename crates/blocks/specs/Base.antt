-- The codes of one row against the 64 rows of a block under base term k, whose values are the records from k + 1 to before e.
use Rattle.std.specs.Prelude.{◌≡◌, Bool, true, false, List, ℕ, ◌+◌, ◌*◌, ◌-◌, ◌<◌, ◌≤◌, ℤ, pos, get_or}
use Rattle.model.specs.declared.{BaseTerm.BaseTerm}
use Rattle.model.specs.declared.BaseTerm.TheVariants.{Explicit}
use Rattle.laws.specs.Sound.{sound_base}
use Rattle.laws.specs.Runs.{values_between}
use Rattle.laws.specs.ValueCodes.{tests_code, value_code}
use Rattle.terms.specs.Prepared.{ReachedFrom}
use Rattle.terms.specs.Places.{leads_to}
use Rattle.ranks.specs.Rank.{RankAt}

-- The row has value v, and x is its rank.
pub record BaseAsked (table : List ℕ) (reach : List (List Bool)) (k e : ℕ) (t : BaseTerm) (x v : ℤ) : Type 0 where
  pub is_sound : sound_base t (values_between table k e) ≡ true
  pub reached : t ≡ Explicit → ReachedFrom table k e reach
  pub own : RankAt table k e t v x

-- Each lane whose rank is right has its code, where record k has its 64, and the codes of the records below stay. The lanes'
-- ranks stand from `at` on, their values from `from` on.
pub record BaseCoded (table : List ℕ) (k e : ℕ) (t : BaseTerm) (ranks : List ℤ) (at : ℕ) (values : List ℤ) (from : ℕ) (v : ℤ)
    (old new : List ℕ) : Type 0 where
  pub made : (j : ℕ) → j < 64 → RankAt table k e t (get_or values (from + j) (pos 0)) (get_or ranks (at + j) (pos 0))
      → get_or new (k * 64 + j) 0 ≡ value_code t (values_between table k e) v (get_or values (from + j) (pos 0))
  pub below : (x : ℕ) → x < k * 64 → get_or new x 0 ≡ get_or old x 0

-- EXPLICIT: the code of two values that are not the same, by their places p and q among the ends of the edges.
unfoldable pub places_code : List (List Bool) → ℕ → ℕ → ℕ → ℕ → ℕ
places_code reach k e p q = tests_code false (leads_to reach k e q p) (leads_to reach k e p q)

-- `to` has the code of place p against each place below the limit, from the first place on.
pub record Against (reach : List (List Bool)) (k e p limit : ℕ) (to : List ℕ) : Type 0 where
  pub each : (q : ℕ) → 2 * k + 2 ≤ q → q < limit → get_or to (q - (2 * k + 2)) 0 ≡ places_code reach k e p q
