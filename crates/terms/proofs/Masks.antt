-- `count_ones` is the number of columns in a mask, computed over all 256 masks. Assumes nothing.
use mathlib.Core.Path.{◌≡◌, sym, subst}
use mathlib.Core.Logic.{⊎_elim}
use mathlib.Core.Bool.{Bool, true, false, ◌&&◌}
use Prim.Native.Nat.{ℕ, zero, suc, ◌<◌}
use native.Mathlib.Nat.{eq-or-lt_of_le, le_of_suc-le-suc, not-suc-le-zero}
use lib.Count.{ones}
use lib.Dec.{T, eqb, eqb→eq}
use Rattle.model.specs.Search.{count_below}
use Rattle.model.specs.Bytes.{bit}

-- A test of all numbers below n, which computes where n is a numeral.
all_below : ℕ → (ℕ → Bool) → Bool
all_below zero test = true
all_below (suc n) test = all_below n test && test n

both_left : (a b : Bool) → T (a && b) → T a
both_left true b t = tt
both_left false b t = t

both_right : (a b : Bool) → T (a && b) → T b
both_right true b t = t
both_right false b t = absurd t

all-at : (test : ℕ → Bool) (n : ℕ) → T (all_below n test) → (k : ℕ) → k < n → T (test k)
unfolding all_below
all-at test zero t k h = absurd (not-suc-le-zero h)
all-at test (suc n) t k h =
    ⊎_elim (λ e. subst (λ (m : ℕ). T (test m)) (sym e) (both_right (all_below n test) (test n) t))
    (λ l. all-at test n (both_left (all_below n test) (test n) t) k l)
    (eq-or-lt_of_le (le_of_suc-le-suc h))

count-test : ℕ → Bool
count-test m = eqb (ones m) (count_below 8 (bit m))

pub ones-count : (m : ℕ) → m < 256 → ones m ≡ count_below 8 (bit m)
unfolding ones count-test all_below count_below bit
ones-count m h = eqb→eq (ones m) (count_below 8 (bit m)) (all-at count-test 256 tt m h)
