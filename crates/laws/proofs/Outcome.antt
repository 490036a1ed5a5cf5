-- What a comparison gives (SPECIFICATION, "Compare"), and how a compound's outcome follows from its parts' outcomes.
-- Assumes nothing.
-- What a reader or a contract cites stands in specs/Outcome.
use Rattle.std.specs.Prelude.{◌≡◌, refl, Bool, true, false}
use Rattle.std.proofs.Common.{sym, ◌∙◌}
use Rattle.model.specs.declared.{Pair.Pair}
use Rattle.model.specs.Term.{Term, pair, dual}
use Rattle.model.specs.Better.{Row, equal, better}
use Rattle.model.specs.Compare.{outcome}
use Rattle.laws.specs.Bools.{off}
use Rattle.laws.specs.Sound.{sound, within, sound-left, sound-right}
use Rattle.laws.specs.Columns.{equal-pair, equal-dual, equal-comm}
use Rattle.laws.specs.Columns.{within-left, within-right}
use Rattle.laws.specs.Ties.{tied, better-pair, better-dual}
use Rattle.laws.proofs.Strict.{asymmetric, equal-unranked}
use Rattle.laws.specs.Outcome.{of_tests, is_first, is_second, Apart, outcome-tests, is-same, joined_outcome, turned}

of-first : (e f s : Bool) → Apart e f → f ≡ is_first (of_tests e f s)
of-first true f s a = off f (a refl)
of-first false true s a = refl
of-first false false true a = refl
of-first false false false a = refl

of-second : (e f s : Bool) → Apart e s → Apart f s → s ≡ is_second (of_tests e f s)
of-second true f s a b = off s (a refl)
of-second false true s a b = off s (b refl)
of-second false false true a b = refl
of-second false false false a b = refl

module _ (t : Term) (s : sound t ≡ true) (w : within 8 t ≡ true) (x y : Row) where
  same_first : Apart (equal t x y) (better t y x)
  same_first e h = equal-unranked t s w y x (sym (equal-comm t x y) ∙ e) h

  -- the first better,
  pub is-first : better t y x ≡ is_first (outcome t x y)
  unfolding outcome
  is-first = of-first (equal t x y) (better t y x) (better t x y) same_first

  -- and the second better.
  pub is-second : better t x y ≡ is_second (outcome t x y)
  unfolding outcome
  is-second = of-second (equal t x y) (better t y x) (better t x y) (equal-unranked t s w x y) (asymmetric t s w y x)

-- PARETO, PRIOR and BOTH: same where both parts are; first better, and second better, as the kind joins the parts.
pub outcome-pair : (op : Pair) (l r : Term) → sound (pair op l r) ≡ true → within 8 (pair op l r) ≡ true → (x y : Row)
    → outcome (pair op l r) x y ≡ joined_outcome op (outcome l x y) (outcome r x y)
unfolding joined_outcome tied
outcome-pair op l r s w x y =
    let sl = sound-left op l r s in
    let sr = sound-right op l r s in
    let wl = within-left 8 op l r w in
    let wr = within-right 8 op l r w in
    outcome-tests (pair op l r) x y ∙
    rw (
      equal-pair op l r x y,
      better-pair op l r x y,
      better-pair op l r y x,
      equal-comm l y x,
      equal-comm r y x,
      is-first l sl wl x y,
      is-first r sr wr x y,
      is-second l sl wl x y,
      is-second r sr wr x y,
      is-same l sl wl x y,
      is-same r sr wr x y,
    )

-- Turning the tests turns the outcome.
pub turned-tests : (e f s : Bool) → Apart f s → of_tests e s f ≡ turned (of_tests e f s)
turned-tests true f s a = refl
turned-tests false true true a = absurd (a refl refl)
turned-tests false true false a = refl
turned-tests false false true a = refl
turned-tests false false false a = refl

-- DUAL: first better and second better change places.
pub outcome-dual : (t : Term) → sound t ≡ true → within 8 t ≡ true → (x y : Row)
    → outcome (dual t) x y ≡ turned (outcome t x y)
unfolding outcome
outcome-dual t s w x y =
    rw (equal-dual t x y, better-dual t x y, better-dual t y x)
    (turned-tests (equal t x y) (better t y x) (better t x y) (asymmetric t s w y x))
