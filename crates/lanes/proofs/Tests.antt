-- The code of an order as a sum, and a signed number as a place. Assumes nothing.
use mathlib.Core.Path.{◌≡◌, refl, sym}
use mathlib.Core.Bool.{Bool, true, false, false≢true}
use mathlib.Core.List.{List}
use Prim.Native.Nat.{ℕ, ◌+◌, ◌*◌, ◌<◌}
use native.Mathlib.Omega.{arith}
use lib.Dec.{T, ltb, eqb}
use lib.IntN.{ℤ, pos, negsuc, nat_abs}
use lib.ListN.{get_or}
use lib.Signed.{lt_z, non_neg}
use mir.Val.{bool_byte}
use borrow.Author.Tests.{ltb-true, ltb-false, eq-eqb}
use Rattle.model.specs.Bytes.{eq_z}
use Rattle.laws.specs.Bools.{eq_z→≡, lt_z-irrefl}
use Rattle.laws.specs.Tests.{one_way}
use Rattle.laws.specs.ValueCodes.{tests_code}
use Rattle.lanes.specs.Lanes.{order_code, place_code}

-- Below is not the same.
below_apart : (x y : ℤ) → eq_z x y ≡ true → lt_z x y ≡ true → ⊥
below_apart x y e p = lt_z-irrefl x (rw (sym (eq_z→≡ x y e)) at p)

-- Where neither is below, they are the same.
neither-nat : (a b : ℕ) → ltb a b ≡ false → ltb b a ≡ false → eqb a b ≡ true
neither-nat a b p q = eq-eqb a b (omega (arith, ltb-false a b p, ltb-false b a q))

neither : (x y : ℤ) → lt_z x y ≡ false → lt_z y x ≡ false → eq_z x y ≡ true
unfolding eq_z
neither (pos a) (pos b) p q = neither-nat a b p q
neither (pos a) (negsuc b) p q = sym q
neither (negsuc a) (pos b) p q = sym p
neither (negsuc a) (negsuc b) p q = neither-nat a b q p

-- ---- the code of an order, as a sum

order-tests : (e p q : Bool) → (e ≡ true → p ≡ true → ⊥) → (e ≡ true → q ≡ true → ⊥) → (p ≡ true → q ≡ true → ⊥)
    → (p ≡ false → q ≡ false → e ≡ true) → bool_byte p + 2 * bool_byte q ≡ tests_code e p q
unfolding tests_code
order-tests true true q f g h n = absurd (f refl refl)
order-tests true false true f g h n = absurd (g refl refl)
order-tests true false false f g h n = refl
order-tests false true true f g h n = absurd (h refl refl)
order-tests false true false f g h n = refl
order-tests false false true f g h n = refl
order-tests false false false f g h n = absurd (false≢true (n refl refl))

pub order-sum : (x y : ℤ) → bool_byte (lt_z x y) + 2 * bool_byte (lt_z y x) ≡ order_code x y
unfolding order_code
order-sum x y =
    order-tests (eq_z x y) (lt_z x y) (lt_z y x) (below_apart x y)
    (λ e q. lt_z-irrefl x (rw (sym (eq_z→≡ x y e)) at q))
    (one_way x y) (neither x y)

-- ---- places

-- A number that is not below 0 is not negative.
pub place-pos : (y : ℤ) → lt_z y (pos 0) ≡ false → T (non_neg y)
place-pos (pos p) h = tt
place-pos (negsuc p) h = absurd (false≢true (sym h))

pub place-small : (y : ℤ) → lt_z y (pos 0) ≡ false → lt_z y (pos 33) ≡ true → nat_abs y < 33
place-small (pos p) h k = ltb-true p 33 k
place-small (negsuc p) h k = absurd (false≢true (sym h))

-- A number below 0 or above 32 is no place.
pub place-below : (to : List ℕ) (y : ℤ) → lt_z y (pos 0) ≡ true → 3 ≡ place_code to y
unfolding place_code
place-below to (pos p) h = absurd (omega (arith, ltb-true p 0 h))
place-below to (negsuc p) h = refl

pub place-above : (to : List ℕ) (y : ℤ) → lt_z y (pos 33) ≡ false → 3 ≡ place_code to y
unfolding place_code
place-above to (pos p) h = rw h
place-above to (negsuc p) h = refl

pub place_at : (to : List ℕ) (y : ℤ) → lt_z y (pos 0) ≡ false → lt_z y (pos 33) ≡ true → get_or to (nat_abs y) 0 ≡ place_code to y
unfolding place_code
place_at to (pos p) h k = rw k
place_at to (negsuc p) h k = absurd (false≢true (sym h))
