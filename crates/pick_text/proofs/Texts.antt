-- The texts of a number, by its digits, and of a place, as the code puts them. Assumes nothing.
use native.Mathlib.Omega.{arith}
use Prim.Native.Nat.{ℕ, ◌≤◌, ◌<◌, ◌+◌, ◌/◌, ◌%◌}
use mathlib.Core.Path.{◌≡◌, refl}
use mathlib.Core.Bool.{Bool, true, false, cond}
use mathlib.Core.List.{[], ◌∷◌}
use borrow.Author.Tests.{lt-ltb, le-ltb, ltb-true}
use lib.Dec.{ltb}
use Rattle.std.specs.Prelude.{Option, Some, None}
use Rattle.model.specs.Pick.{text, digits, decimal, place_text}

-- The digit of n at the place whose weight is w.
abbrev digit : ℕ → ℕ → ℕ
digit n w = 48 + n / w % 10

-- Of a number with more than four digits the fourth is the first that is put.
fourth : (m : ℕ) (b : Bool) → ltb m 10 ≡ b → cond b ((48 + m) ∷ []) ((48 + m % 10) ∷ []) ≡ (48 + m % 10) ∷ []
fourth m true h = let e : m % 10 ≡ m = omega (arith, ltb-true m 10 h) in rw e
fourth m false h = refl

-- A number of one to three digits, and of four or more, by its last four digits.
module _ (n : ℕ) {a b c d : ℕ} (e3 : a ≡ digit n 1000) (e2 : b ≡ digit n 100) (e1 : c ≡ digit n 10) (e0 : d ≡ 48 + n % 10) where
  pub one : n < 10 → decimal n ≡ d ∷ []
  unfolding decimal digits
  one h = let e : n % 10 ≡ n = omega arith in simp (e0, lt-ltb n 10 h, e)

  pub two : 10 ≤ n → n < 100 → decimal n ≡ c ∷ d ∷ []
  unfolding decimal digits
  two h k = let e : n / 10 % 10 ≡ n / 10 = omega arith in simp (e1, e0, le-ltb n 10 h, lt-ltb (n / 10) 10 (omega arith), e)

  pub three : 100 ≤ n → n < 1000 → decimal n ≡ b ∷ c ∷ d ∷ []
  unfolding decimal digits
  three h k =
      let e : n / 10 / 10 ≡ n / 100 = omega arith in
      let f : n / 100 % 10 ≡ n / 100 = omega arith in
      simp (e2, e1, e0, e, le-ltb n 10 (omega arith), le-ltb (n / 10) 10 (omega arith), lt-ltb (n / 100) 10 (omega arith), f)

  pub four : 1000 ≤ n → decimal n ≡ a ∷ b ∷ c ∷ d ∷ []
  unfolding decimal digits
  four h =
      let e : n / 10 / 10 ≡ n / 100 = omega arith in
      let f : n / 100 / 10 ≡ n / 1000 = omega arith in
      let g = fourth (n / 1000) (ltb (n / 1000) 10) refl in
      simp (e3, e2, e1, e0, e, f, le-ltb n 10 (omega arith), le-ltb (n / 10) 10 (omega arith), le-ltb (n / 100) 10 (omega arith), g)

-- A place.
pub nowhere : {p : Option ℕ} → p ≡ None → place_text p ≡ 45 ∷ []
unfolding text
nowhere e = rw e

pub placed : {p : Option ℕ} {k : ℕ} → p ≡ Some k → place_text p ≡ decimal k
placed e = rw e
