-- What is told by a mask is picked by the code. Assumes nothing.
use mathlib.Core.Path.{◌≡◌, refl, ◌∙◌, ap}
use mathlib.Core.Bool.{Bool, true}
use mathlib.Core.List.{List}
use Prim.Native.Nat.{ℕ, ◌+◌, ◌<◌}
use native.Mathlib.Omega.{arith}
use lib.Bits.{bit_or}
use lib.Dec.{eqb}
use lib.ListN.{get_or}
use borrow.Author.Tests.{eqb-true}
use Rattle.laws.specs.Wrote.{Wrote}
use Rattle.model.specs.Search.{any_below}
use Rattle.laws.specs.Codes.{turned_code}
use Rattle.plan.specs.declared.vetted.exit_masks.{Exit.Exit}
use Rattle.plan.specs.declared.vetted.exit_masks.Exit.TheVariants.{Nothing, Bits, TurnedBits, All, TurnedAll}
use Rattle.plan.specs.Told.{told_code, wholly_code}
use Rattle.plan.proofs.Bits.{all-1}
use Rattle.lanes.specs.KnownLanes.{Told, add_lane, pick_code, pick_lane}

-- Bits tells the code itself.
pub added : (codes : List ℕ) (from : ℕ) (old new : List ℕ) (m : Exit) → m ≡ Bits
    → Wrote 0 (add_lane codes from old) 0 64 old new → Told m codes from old new
unfolding add_lane told_code
added codes from old new m is w = record { made = λ j l c. let q : 0 + j ≡ j = omega arith in rw is (rw q at (w.made j l)) }

-- Any mask is picked from what it tells by 1, 2 and 3; by 0 it tells nothing.
abbrev pick-test : Exit → ℕ → Bool
pick-test m c = eqb (pick_code (told_code m 1) (told_code m 2) (told_code m 3) c) (told_code m c)

pick_all : (m : Exit) (c : ℕ) → c < 4 → pick-test m c ≡ true
unfolding pick_code told_code wholly_code turned_code any_below
pick_all Nothing c l = all-1 4 (pick-test Nothing) refl c l
pick_all Bits c l = all-1 4 (pick-test Bits) refl c l
pick_all TurnedBits c l = all-1 4 (pick-test TurnedBits) refl c l
pick_all All c l = all-1 4 (pick-test All) refl c l
pick_all TurnedAll c l = all-1 4 (pick-test TurnedAll) refl c l

module _ (m : Exit) (first second unranked : ℕ) (f : first ≡ told_code m 1) (s : second ≡ told_code m 2)
    (u : unranked ≡ told_code m 3) where
  pick_is : (c : ℕ) → c < 4 → pick_code first second unranked c ≡ told_code m c
  pick_is c l = rw (f, s, u) (eqb-true _ _ (pick_all m c l))

  pub picked : (codes : List ℕ) (from : ℕ) (old new : List ℕ)
      → Wrote 0 (pick_lane first second unranked codes from old) 0 64 old new → Told m codes from old new
  unfolding pick_lane
  picked codes from old new w =
      record { made = λ j l c. let q : 0 + j ≡ j = omega arith in (rw q at (w.made j l)) ∙ ap (bit_or (get_or old j 0)) (pick_is (get_or codes (from + j) 0) c) }
