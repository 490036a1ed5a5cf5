-- Signed numbers of 32 bits as the machine has them: a local holds bits, which an operation reads back. Assumes nothing.
use mathlib.Core.Path.{◌≡◌, refl, sym, ap, ap₂, ◌∙◌, subst}
use mathlib.Core.Bool.{Bool, true, false, cond}
use mathlib.Core.Logic.{⊎_elim}
use Prim.Native.Nat.{ℕ, zero, suc, ◌-◌, ◌≤◌, ◌<◌, ◌^◌}
use native.Mathlib.Omega.{arith}
use native.Mathlib.Nat.{zero-add}
use lib.Dec.{ltb, eqb}
use lib.IntN.{ℤ, pos, negsuc, ◌-ℤ◌}
use lib.Signed.{mag}
use mir.Syntax.{w32}
use mir.Val.{SFits, to_z, of_z}
use mir.Facts.{to_z-of_z}
use mir.ValLaws.{to_z_pos}
use borrow.Author.Tests.{ne_eqb, eq-eqb, eqb-true, eqb-false, ltb-true, ltb-false}
use Rattle.model.specs.Bytes.{eq_z, signed}
use Rattle.laws.specs.Bools.{on-or-off}

-- ---- two's complement

pub minus_one : (m : ℕ) → negsuc 0 -ℤ pos m ≡ negsuc m
minus_one zero = refl
minus_one (suc k) = ap (λ (n : ℕ). negsuc (suc n)) (zero-add k)

-- A word from 2 ^ 31 on stands for a negative number, which fits.
module _ (u : ℕ) (high : 2 ^ 31 ≤ u) where
  upper_is : negsuc 0 -ℤ to_z w32 (4294967295 - u) ≡ negsuc (4294967295 - u)
  upper_is = ap (λ (z : ℤ). negsuc 0 -ℤ z) (to_z_pos w32 (4294967295 - u) (omega arith)) ∙ minus_one (4294967295 - u)

  upper-fits' : SFits w32 (negsuc (4294967295 - u))
  upper-fits' = record { sfits = omega arith }

  pub upper_fits : SFits w32 (negsuc 0 -ℤ to_z w32 (4294967295 - u))
  upper_fits = subst (λ (z : ℤ). SFits w32 z) (sym upper_is) upper-fits'

  pub upper : to_z w32 (of_z w32 (negsuc 0 -ℤ to_z w32 (4294967295 - u))) ≡ negsuc (4294967295 - u)
  upper = to_z-of_z upper_fits ∙ upper_is

-- The machine reads 32 bits as `signed` does.
pub bits-signed : (word : ℕ) → to_z w32 word ≡ signed word
unfolding signed
bits-signed word = go (ltb word 2147483648) refl
  where
    go : (t : Bool) → ltb word 2147483648 ≡ t → to_z w32 word ≡ cond t (pos word) (negsuc (4294967295 - word))
    go true e = rw e
    go false e = rw e (ap negsuc (omega arith))

-- an equality test, on the bits
pub eq-bits : {a b : ℤ} → SFits w32 a → SFits w32 b → eqb (of_z w32 a) (of_z w32 b) ≡ eq_z a b
unfolding eq_z
eq-bits {a = pos a} {b = pos b} f g = refl
eq-bits {a = pos a} {b = negsuc b} f g =
    ne_eqb a (4294967296 - suc b) (λ e. let h : a < 2147483648 = f.sfits in let k : b < 2147483648 = g.sfits in omega arith)
eq-bits {a = negsuc a} {b = pos b} f g =
    ne_eqb (4294967296 - suc a) b (λ e. let h : a < 2147483648 = f.sfits in let k : b < 2147483648 = g.sfits in omega arith)
eq-bits {a = negsuc a} {b = negsuc b} f g = by-test (eqb a b) refl
  where
    by-test : (t : Bool) → eqb a b ≡ t → eqb (4294967296 - suc a) (4294967296 - suc b) ≡ t
    by-test true e = eq-eqb (4294967296 - suc a) (4294967296 - suc b) (ap (λ (n : ℕ). 4294967296 - suc n) (eqb-true a b e))
    by-test false e =
        ne_eqb (4294967296 - suc a) (4294967296 - suc b)
        (λ q. eqb-false a b e (let h : a < 2147483648 = f.sfits in let k : b < 2147483648 = g.sfits in omega arith))

-- a test for zero, on the bits
pub is_zero : {z : ℤ} → SFits w32 z → eqb (of_z w32 z) 0 ≡ eq_z z (pos 0)
is_zero f = eq-bits f (record { sfits = omega arith })

-- a number that a call returned, kept in a local and read back
pub returned : (z : ℤ) {w : ℤ} → mag z < 2 ^ 31 → z ≡ w → to_z w32 (of_z w32 z) ≡ w
returned z h e = to_z-of_z {w = w32} {z = z} (record { sfits = h }) ∙ e

-- a test on two locals of type i32 is the test on the numbers
pub test32 : (p : ℤ → ℤ → Bool) {a b : ℤ} {t : Bool} → SFits w32 a → SFits w32 b → p (to_z w32 (of_z w32 a)) (to_z w32 (of_z w32 b)) ≡ t → p a b ≡ t
test32 p f g e = sym (ap₂ p (to_z-of_z f) (to_z-of_z g)) ∙ e

-- ---- words

high-eq : (a b : ℕ) → a < 4294967296 → b < 4294967296 → eqb (4294967295 - a) (4294967295 - b) ≡ eqb a b
high-eq a b h k =
    ⊎_elim (λ e. rw e (eq-eqb (4294967295 - a) (4294967295 - b) (rw (eqb-true a b e))))
    (λ e. rw e (ne_eqb (4294967295 - a) (4294967295 - b) (λ q. eqb-false a b e (omega arith))))
    (on-or-off (eqb a b))

-- Words are equal exactly when the numbers that they stand for are.
pub eq-signed : (a b : ℕ) → a < 4294967296 → b < 4294967296 → eq_z (signed a) (signed b) ≡ eqb a b
unfolding signed eq_z
eq-signed a b h k = go (ltb a 2147483648) refl (ltb b 2147483648) refl
  where
    go : (s : Bool) → ltb a 2147483648 ≡ s → (t : Bool) → ltb b 2147483648 ≡ t
        → eq_z (cond s (pos a) (negsuc (4294967295 - a))) (cond t (pos b) (negsuc (4294967295 - b))) ≡ eqb a b
    go true e true f = refl
    go true e false f = sym (ne_eqb a b (λ q. omega (arith, ltb-true a 2147483648 e, ltb-false b 2147483648 f)))
    go false e true f = sym (ne_eqb a b (λ q. omega (arith, ltb-false a 2147483648 e, ltb-true b 2147483648 f)))
    go false e false f = high-eq a b h k
