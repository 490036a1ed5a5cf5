-- Codes below 4 and masks: each rule is one test that is computed over all of them. Assumes nothing.
use mathlib.Core.Path.{◌≡◌, refl, sym}
use mathlib.Core.Logic.{◌⊎◌, inl, inr}
use mathlib.Core.Bool.{Bool, true, false, false≢true, not, ◌&&◌, ◌||◌}
use Prim.Native.Nat.{ℕ, ◌<◌}
use native.Mathlib.Omega.{arith}
use lib.Bits.{bit_or}
use lib.Dec.{eqb, ltb}
use borrow.Author.Tests.{ltb-true}
use Rattle.model.specs.Search.{any_below}
use Rattle.laws.specs.Search.{none-e}
use Rattle.laws.specs.Codes.{turned_code, prior_code}
use Rattle.plan.specs.declared.vetted.exit_masks.{Exit.Exit}
use Rattle.plan.specs.declared.vetted.exit_masks.Exit.TheVariants.{Nothing, Bits, TurnedBits, All, TurnedAll}
use Rattle.plan.specs.Told.{is_nothing, wholly_code, told_code, bits, within, holds, turned_mask, part_mask, own_mask}

-- A test that fails nowhere holds everywhere.
pub all-1 : (n : ℕ) (p : ℕ → Bool) → any_below n (λ a. not (p a)) ≡ false → (a : ℕ) → a < n → p a ≡ true
all-1 n p none a l = on (p a) (none-e n (λ a. not (p a)) none a l)
  where
    on : (b : Bool) → not b ≡ false → b ≡ true
    on true e = refl
    on false e = sym e

pub all-2 : (n m : ℕ) (p : ℕ → ℕ → Bool) → any_below n (λ a. any_below m (λ b. not (p a b))) ≡ false
    → (a b : ℕ) → a < n → b < m → p a b ≡ true
all-2 n m p none a b l k = all-1 m (p a) (none-e n (λ a. any_below m (λ b. not (p a b))) none a l) b k

pub all-3 : (n m o : ℕ) (p : ℕ → ℕ → ℕ → Bool) → any_below n (λ a. any_below m (λ b. any_below o (λ c. not (p a b c)))) ≡ false
    → (a b c : ℕ) → a < n → b < m → c < o → p a b c ≡ true
all-3 n m o p none a b c l k h =
    all-2 m o (p a) (none-e n (λ a. any_below m (λ b. any_below o (λ c. not (p a b c)))) none a l) b c k h

pub all-4 : (n m o q : ℕ) (p : ℕ → ℕ → ℕ → ℕ → Bool)
    → any_below n (λ a. any_below m (λ b. any_below o (λ c. any_below q (λ d. not (p a b c d))))) ≡ false
    → (a b c d : ℕ) → a < n → b < m → c < o → d < q → p a b c d ≡ true
all-4 n m o q p none a b c d l k h i =
    all-3 m o q (p a) (none-e n (λ a. any_below m (λ b. any_below o (λ c. any_below q (λ d. not (p a b c d))))) none a l) b c d k h i

-- An implication as a test.
unfoldable pub implies : Bool → Bool → Bool
implies a b = not a || b

pub implied : (a b : Bool) → implies a b ≡ true → a ≡ true → b ≡ true
unfolding implies
implied true b e h = e
implied false b e h = absurd (false≢true h)

-- ---- the rules

-- What holds of each mask.
by-mask : (P : Exit → Type 0) → P Nothing → P Bits → P TurnedBits → P All → P TurnedAll → (m : Exit) → P m
by-mask P a b c d e Nothing = a
by-mask P a b c d e Bits = b
by-mask P a b c d e TurnedBits = c
by-mask P a b c d e All = d
by-mask P a b c d e TurnedAll = e

pub nothing-is : (m : Exit) → is_nothing m ≡ true → m ≡ Nothing
nothing-is Nothing e = refl
nothing-is Bits e = absurd (false≢true e)
nothing-is TurnedBits e = absurd (false≢true e)
nothing-is All e = absurd (false≢true e)
nothing-is TurnedAll e = absurd (false≢true e)

-- Nothing is told by that mask, and that holds.
pub none-holds : (o : ℕ) → o < 4 → holds 0 o ≡ true
unfolding holds within any_below
none-holds o l = all-1 4 (λ o. holds 0 o) refl o l

pub none_within : (w : ℕ) → w < 4 → within 0 w ≡ true
unfolding within any_below
none_within w l = all-1 4 (λ w. within 0 w) refl w l

-- The asked term tells its own code, by Bits and by All.
pub own-holds : (c : ℕ) → c < 4 → (holds (told_code Bits c) c && holds (told_code All c) c) ≡ true
unfolding holds within told_code wholly_code turned_code any_below
own-holds c l = all-1 4 (λ c. holds (told_code Bits c) c && holds (told_code All c) c) refl c l

pub own_bits : (c : ℕ) → c < 4 → (eqb (bits (told_code Bits c)) c && eqb (bits (told_code All c)) c) ≡ true
unfolding told_code wholly_code turned_code bits any_below
own_bits c l = all-1 4 (λ c. eqb (bits (told_code Bits c)) c && eqb (bits (told_code All c)) c) refl c l

-- DUAL: its part tells what it tells.
abbrev dual-test : Exit → ℕ → Bool
dual-test m c = eqb (told_code (turned_mask m) c) (told_code m (turned_code c))

pub dual-tells : (m : Exit) (c : ℕ) → c < 4 → eqb (told_code (turned_mask m) c) (told_code m (turned_code c)) ≡ true
unfolding told_code wholly_code turned_code any_below
dual-tells =
    by-mask (λ m. (c : ℕ) → c < 4 → eqb (told_code (turned_mask m) c) (told_code m (turned_code c)) ≡ true)
    (all-1 4 (dual-test Nothing) refl) (all-1 4 (dual-test Bits) refl) (all-1 4 (dual-test TurnedBits) refl) (all-1 4 (dual-test All) refl)
    (all-1 4 (dual-test TurnedAll) refl)

-- PRIOR: its left part tells what it tells, or nothing.
abbrev left-test : Exit → ℕ → ℕ → ℕ → Bool
left-test m a b o = implies (holds (told_code m (prior_code a b)) o) (holds (told_code m a) o)

pub left-holds : (m : Exit) (a b o : ℕ) → a < 4 → b < 4 → o < 4
    → implies (holds (told_code m (prior_code a b)) o) (holds (told_code m a) o) ≡ true
unfolding holds within told_code wholly_code turned_code prior_code implies any_below
left-holds =
    by-mask (λ m. (a b o : ℕ) → a < 4 → b < 4 → o < 4 → left-test m a b o ≡ true)
    (all-3 4 4 4 (left-test Nothing) refl) (all-3 4 4 4 (left-test Bits) refl) (all-3 4 4 4 (left-test TurnedBits) refl)
    (all-3 4 4 4 (left-test All) refl) (all-3 4 4 4 (left-test TurnedAll) refl)

-- PARETO and BOTH: a part tells bits that the compound tells,
abbrev part-test : Exit → ℕ → ℕ → ℕ → Bool
part-test m a b o = implies (holds (told_code m (bit_or a b)) o) (holds (told_code (part_mask m) a) o && holds (told_code (part_mask m) b) o)

pub part-holds : (m : Exit) (a b o : ℕ) → a < 4 → b < 4 → o < 4
    → implies (holds (told_code m (bit_or a b)) o) (holds (told_code (part_mask m) a) o && holds (told_code (part_mask m) b) o) ≡ true
unfolding holds within told_code wholly_code turned_code implies any_below
part-holds =
    by-mask (λ m. (a b o : ℕ) → a < 4 → b < 4 → o < 4 → part-test m a b o ≡ true)
    (all-3 4 4 4 (part-test Nothing) refl) (all-3 4 4 4 (part-test Bits) refl) (all-3 4 4 4 (part-test TurnedBits) refl)
    (all-3 4 4 4 (part-test All) refl) (all-3 4 4 4 (part-test TurnedAll) refl)

-- and the two tell them all.
abbrev within-test : Exit → ℕ → ℕ → ℕ → Bool
within-test m a b w =
    implies (within (bits (told_code (part_mask m) a)) w && within (bits (told_code (part_mask m) b)) w)
    (within (bits (told_code m (bit_or a b))) w)

pub parts_within : (m : Exit) (a b w : ℕ) → a < 4 → b < 4 → w < 4
    → implies (within (bits (told_code (part_mask m) a)) w && within (bits (told_code (part_mask m) b)) w)
    (within (bits (told_code m (bit_or a b))) w) ≡ true
unfolding within told_code wholly_code turned_code bits implies any_below
parts_within =
    by-mask (λ m. (a b w : ℕ) → a < 4 → b < 4 → w < 4 → within-test m a b w ≡ true)
    (all-3 4 4 4 (within-test Nothing) refl) (all-3 4 4 4 (within-test Bits) refl) (all-3 4 4 4 (within-test TurnedBits) refl)
    (all-3 4 4 4 (within-test All) refl) (all-3 4 4 4 (within-test TurnedAll) refl)

-- What is left to the compound is its mask or none.
pub own-cases : (m : Exit) → (own_mask m ≡ Nothing) ⊎ (own_mask m ≡ m)
own-cases Nothing = inl refl
own-cases Bits = inl refl
own-cases TurnedBits = inl refl
own-cases All = inr refl
own-cases TurnedAll = inr refl

pub turned_low : (c : ℕ) → c < 4 → turned_code c < 4
unfolding turned_code any_below
turned_low c l = ltb-true (turned_code c) 4 (all-1 4 (λ c. ltb (turned_code c) 4) refl c l)

-- ---- two things told

-- What is told is below 8.
abbrev low-test : Exit → ℕ → Bool
low-test m c = ltb (told_code m c) 8

pub told-low : (m : Exit) (c : ℕ) → c < 4 → told_code m c < 8
unfolding told_code wholly_code turned_code any_below
told-low m c l =
    ltb-true (told_code m c) 8
    (by-mask (λ m. (c : ℕ) → c < 4 → low-test m c ≡ true)
    (all-1 4 (low-test Nothing) refl) (all-1 4 (low-test Bits) refl) (all-1 4 (low-test TurnedBits) refl) (all-1 4 (low-test All) refl)
    (all-1 4 (low-test TurnedAll) refl) m c l)

-- Together they are true,
pub both_hold : (a b o : ℕ) → a < 8 → b < 8 → o < 4 → implies (holds a o && holds b o) (holds (bit_or a b) o) ≡ true
unfolding holds within implies any_below
both_hold a b o l k h = all-3 8 8 4 (λ a b o. implies (holds a o && holds b o) (holds (bit_or a b) o)) refl a b o l k h

pub both-low : (a b : ℕ) → a < 8 → b < 8 → bit_or a b < 8
unfolding any_below
both-low a b l k = ltb-true (bit_or a b) 8 (all-2 8 8 (λ a b. ltb (bit_or a b) 8) refl a b l k)

-- and have the bits of either.
pub left-bits : (c a b : ℕ) → c < 4 → a < 8 → b < 8 → implies (within c (bits a)) (within c (bits (bit_or a b))) ≡ true
unfolding within bits implies any_below
left-bits c a b l k h = all-3 4 8 8 (λ c a b. implies (within c (bits a)) (within c (bits (bit_or a b)))) refl c a b l k h

pub right-bits : (a b : ℕ) → a < 8 → b < 8 → within (bits b) (bits (bit_or a b)) ≡ true
unfolding within bits any_below
right-bits a b l k = all-2 8 8 (λ a b. within (bits b) (bits (bit_or a b))) refl a b l k

-- ---- when it is the whole code

-- From 3 on,
pub stop-bits : (w o : ℕ) → w < 8 → o < 4 → implies (holds w o && not (ltb w 3)) (eqb (bits w) o) ≡ true
unfolding holds within bits implies any_below
stop-bits w o l k = all-2 8 4 (λ w o. implies (holds w o && not (ltb w 3)) (eqb (bits w) o)) refl w o l k

-- and where the code has no bits but those.
pub all-bits : (w o : ℕ) → w < 8 → o < 4 → implies (holds w o && within o (bits w)) (eqb (bits w) o) ≡ true
unfolding holds within bits implies any_below
all-bits w o l k = all-2 8 4 (λ w o. implies (holds w o && within o (bits w)) (eqb (bits w) o)) refl w o l k

pub bits-low : (w : ℕ) → bits w < 4
unfolding bits
bits-low w = omega arith
