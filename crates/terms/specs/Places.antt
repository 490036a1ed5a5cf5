-- What is known of a base term and its values; EXPLICIT by places among the ends of the edges (SPECIFICATION, "When a row is
-- better").
use Rattle.std.specs.Prelude.{◌≡◌, Bool, true, false, cond, List, ℕ, ◌+◌, ◌*◌, ◌-◌, ◌≤◌, eqb, ℤ}
use Rattle.model.specs.declared.{BaseTerm.BaseTerm}
use Rattle.model.specs.declared.BaseTerm.TheVariants.{Explicit}
use Rattle.laws.specs.Sound.{sound_base}
use Rattle.laws.specs.Runs.{values_between}
use Rattle.terms.specs.Run.{Values}
use Rattle.terms.specs.Closure.{cell_at}
use Rattle.terms.specs.Prepared.{Numbers, ReachedFrom}

-- What is known of base term k, whose values are the records from k + 1 to before e.
pub record BaseTermAt (table : List ℕ) (numbers : List ℤ) (reach : List (List Bool)) (k e : ℕ) (b : BaseTerm)
    : Type 0 where
  pub values : Values table k e
  pub prepared : Numbers table numbers
  pub is_sound : sound_base b (values_between table k e) ≡ true
  pub reached : b ≡ Explicit → ReachedFrom table k e reach

-- p is a place among the ends of the edges from record k + 1 to before e, or 2e for none; k and e are as in `Values`.
pub record Ends (k e p : ℕ) : Type 0 where
  pub few : e ≤ k + 17
  pub last : e ≤ 128
  pub low : 2 * k + 2 ≤ p
  pub high : p ≤ 2 * e

-- EXPLICIT, by places: the number at place q is in some edge, and that at place p is in none or leads to it.
unfoldable pub leads_to : List (List Bool) → ℕ → ℕ → ℕ → ℕ → Bool
leads_to reach k e p q =
    cond (eqb q (2 * e)) false (cond (eqb p (2 * e)) true (cell_at reach p (q - (2 * k + 2))))
