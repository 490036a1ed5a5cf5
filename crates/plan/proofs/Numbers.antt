-- Masks by their numbers: what is made of a mask's number is what is made of the mask. The rules of masks hold of every
-- number below 8. Assumes nothing.
use mathlib.Core.Path.{◌≡◌, refl}
use mathlib.Core.Bool.{true, ◌&&◌, ◌||◌}
use Prim.Native.Nat.{ℕ, ◌<◌}
use lib.Bits.{bit_or}
use lib.Dec.{eqb, ltb}
use borrow.Author.Tests.{ltb-true}
use Rattle.model.specs.Search.{any_below}
use Rattle.laws.specs.Codes.{turned_code, prior_code}
use Rattle.plan.specs.declared.vetted.exit_masks.{Exit.Exit}
use Rattle.plan.specs.declared.vetted.exit_masks.Exit.TheVariants.{Nothing, Bits, TurnedBits, All, TurnedAll}
use Rattle.plan.specs.Told.{wholly_code, told_code, bits, within, holds, turned_mask, part_mask, own_mask}
use Rattle.plan.specs.Told.{mask_number, told_by_number, turned_number, part_number, own_number}
use Rattle.plan.proofs.Bits.{all-1, all-2, all-4, implies}

-- ---- the two agree

pub told-agrees : (m : Exit) (c : ℕ) → told_by_number (mask_number m) c ≡ told_code m c
unfolding told_by_number told_code
told-agrees Nothing c = refl
told-agrees Bits c = refl
told-agrees TurnedBits c = refl
told-agrees All c = refl
told-agrees TurnedAll c = refl

pub turned-agrees : (m : Exit) → turned_number (mask_number m) ≡ mask_number (turned_mask m)
unfolding turned_number
turned-agrees Nothing = refl
turned-agrees Bits = refl
turned-agrees TurnedBits = refl
turned-agrees All = refl
turned-agrees TurnedAll = refl

pub part-agrees : (m : Exit) → part_number (mask_number m) ≡ mask_number (part_mask m)
unfolding part_number
part-agrees Nothing = refl
part-agrees Bits = refl
part-agrees TurnedBits = refl
part-agrees All = refl
part-agrees TurnedAll = refl

pub own-agrees : (m : Exit) → own_number (mask_number m) ≡ mask_number (own_mask m)
unfolding own_number
own-agrees Nothing = refl
own-agrees Bits = refl
own-agrees TurnedBits = refl
own-agrees All = refl
own-agrees TurnedAll = refl

-- ---- the rules

-- The asked term tells its own code: mask 1 and mask 5.
pub own-holds : (c : ℕ) → c < 4 → (holds (told_by_number 1 c) c && holds (told_by_number 5 c) c) ≡ true
unfolding holds within told_by_number wholly_code turned_code any_below
own-holds c l = all-1 4 (λ c. holds (told_by_number 1 c) c && holds (told_by_number 5 c) c) refl c l

pub own_bits : (c : ℕ) → c < 4 → (eqb (bits (told_by_number 1 c)) c && eqb (bits (told_by_number 5 c)) c) ≡ true
unfolding told_by_number wholly_code turned_code bits any_below
own_bits c l = all-1 4 (λ c. eqb (bits (told_by_number 1 c)) c && eqb (bits (told_by_number 5 c)) c) refl c l

-- DUAL: its part tells what it tells.
pub dual-tells : (m c : ℕ) → m < 8 → c < 4 → eqb (told_by_number (turned_number m) c) (told_by_number m (turned_code c)) ≡ true
unfolding told_by_number wholly_code turned_code turned_number any_below
dual-tells m c l k = all-2 8 4 (λ m c. eqb (told_by_number (turned_number m) c) (told_by_number m (turned_code c))) refl m c l k

-- PRIOR: its left part tells what it tells, or nothing.
pub left-holds : (m a b o : ℕ) → m < 8 → a < 4 → b < 4 → o < 4
    → implies (holds (told_by_number m (prior_code a b)) o) (holds (told_by_number m a) o) ≡ true
unfolding holds within told_by_number wholly_code turned_code prior_code implies any_below
left-holds m a b o l h i j =
    all-4 8 4 4 4 (λ m a b o. implies (holds (told_by_number m (prior_code a b)) o) (holds (told_by_number m a) o)) refl m a b o l h i j

-- PARETO and BOTH: a part tells bits that the compound tells,
pub part-holds : (m a b o : ℕ) → m < 8 → a < 4 → b < 4 → o < 4
    → implies (holds (told_by_number m (bit_or a b)) o)
    (holds (told_by_number (part_number m) a) o && holds (told_by_number (part_number m) b) o) ≡ true
unfolding holds within told_by_number wholly_code turned_code part_number implies any_below
part-holds m a b o l h i j =
    all-4 8 4 4 4
    (λ m a b o. implies (holds (told_by_number m (bit_or a b)) o)
    (holds (told_by_number (part_number m) a) o && holds (told_by_number (part_number m) b) o))
    refl m a b o l h i j

-- and the two tell them all.
pub parts_within : (m a b w : ℕ) → m < 8 → a < 4 → b < 4 → w < 4
    → implies (within (bits (told_by_number (part_number m) a)) w && within (bits (told_by_number (part_number m) b)) w)
    (within (bits (told_by_number m (bit_or a b))) w) ≡ true
unfolding within told_by_number wholly_code turned_code part_number bits implies any_below
parts_within m a b w l h i j =
    all-4 8 4 4 4
    (λ m a b w. implies (within (bits (told_by_number (part_number m) a)) w && within (bits (told_by_number (part_number m) b)) w)
    (within (bits (told_by_number m (bit_or a b))) w))
    refl m a b w l h i j

-- What is left to the compound is its mask or none.
pub own-cases : (m : ℕ) → m < 8 → (eqb (own_number m) 0 || eqb (own_number m) m) ≡ true
unfolding own_number any_below
own-cases m l = all-1 8 (λ m. eqb (own_number m) 0 || eqb (own_number m) m) refl m l

-- Masks stay below 8,
pub masks-low : (m : ℕ) → m < 8 → (ltb (turned_number m) 8 && ltb (part_number m) 8) ≡ true
unfolding turned_number part_number any_below
masks-low m l = all-1 8 (λ m. ltb (turned_number m) 8 && ltb (part_number m) 8) refl m l

-- and so does what is told.
pub told-low : (m c : ℕ) → m < 8 → c < 4 → told_by_number m c < 8
unfolding told_by_number wholly_code turned_code any_below
told-low m c l k = ltb-true (told_by_number m c) 8 (all-2 8 4 (λ m c. ltb (told_by_number m c) 8) refl m c l k)
