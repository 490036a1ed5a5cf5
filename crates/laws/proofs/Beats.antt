-- Which of two rows of a run beats the other, by the outcome of their comparison (SPECIFICATION, "Compare" and
-- "Query"). Assumes nothing.
use Rattle.std.specs.Prelude.{◌≡◌, refl, Bool, true, ◌&&◌, List, ℕ, eqb, ℤ}
use Rattle.std.proofs.Common.{◌∙◌, ap}
use Rattle.model.specs.declared.{Outcome.Outcome}
use Rattle.model.specs.declared.Outcome.TheVariants.{Same, First, Second, Unranked}
use Rattle.model.specs.Term.{Term}
use Rattle.model.specs.Better.{Row, equal_in}
use Rattle.model.specs.Compare.{outcome}
use Rattle.model.specs.Query.{row_at, beats_in}
use Rattle.laws.specs.Sound.{sound, within}
use Rattle.laws.specs.Masks.{equal_in-comm}
use Rattle.laws.specs.Outcome.{is_first, is_second}
use Rattle.laws.proofs.Outcome.{is-first, is-second}
use Rattle.laws.specs.Codes.{code, code_of}

-- First better is code 1,
first_code : (o : Outcome) → is_first o ≡ eqb (code_of o) 1
first_code Same = refl
first_code First = refl
first_code Second = refl
first_code Unranked = refl

-- and second better code 2.
second-code : (o : Outcome) → is_second o ≡ eqb (code_of o) 2
second-code Same = refl
second-code First = refl
second-code Second = refl
second-code Unranked = refl

module _ (t : Term) (s : sound t ≡ true) (w : within 8 t ≡ true) (columns : ℕ) (rows : List ℤ) (group i j : ℕ) where
  abbrev x : Row
  x = row_at columns rows i

  abbrev y : Row
  y = row_at columns rows j

  -- Row i beats row j: they are in one group, and the first of the two is better.
  pub beats-first : beats_in t columns rows group i j ≡ (equal_in group x y && is_first (outcome t x y))
  unfolding beats_in
  beats-first = rw (equal_in-comm group y x, is-first t s w x y)

  -- Row j beats row i: they are in one group, and the second of the two is better.
  pub beats-second : beats_in t columns rows group j i ≡ (equal_in group x y && is_second (outcome t x y))
  unfolding beats_in
  beats-second = rw (is-second t s w x y)

  -- The same by the code: 1,
  pub beats-one : beats_in t columns rows group i j ≡ (equal_in group x y && eqb (code t x y) 1)
  beats-one = beats-first ∙ ap (λ (b : Bool). equal_in group x y && b) (first_code (outcome t x y))

  -- and 2.
  pub beats-two : beats_in t columns rows group j i ≡ (equal_in group x y && eqb (code t x y) 2)
  beats-two = beats-second ∙ ap (λ (b : Bool). equal_in group x y && b) (second-code (outcome t x y))
