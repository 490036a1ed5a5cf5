-- What is known of the asked term's code grows record by record, and becomes the whole code. Assumes nothing.
use mathlib.Core.Path.{◌≡◌, refl, sym, ◌∙◌}
use mathlib.Core.Logic.{⊎_elim}
use mathlib.Core.Bool.{not, ◌&&◌}
use mathlib.Core.List.{List}
use Prim.Native.Nat.{ℕ, ◌+◌, ◌<◌, ◌≤◌}
use native.Mathlib.Omega.{arith}
use lib.Bits.{bit_or}
use lib.Dec.{eqb, ltb}
use borrow.Author.Tests.{eqb-true, le-ltb, ltb-true, ltb-false}
use Rattle.model.specs.Term.{term_at}
use Rattle.model.specs.Better.{Row}
use Rattle.model.specs.Compare.{outcome}
use Rattle.laws.specs.Bools.{and_i, on-or-off}
use Rattle.laws.specs.Search.{lt-suc-cases}
use Rattle.laws.specs.Codes.{code, code_below}
use Rattle.plan.specs.declared.vetted.exit_masks.{Exit.Exit}
use Rattle.plan.specs.declared.vetted.exit_masks.Exit.TheVariants.{Nothing}
use Rattle.plan.specs.Told.{told_code, bits, within, holds}
use Rattle.plan.specs.Exits.{mask_at, tells_at, Exits}
use Rattle.plan.specs.Known.{Known}
use Rattle.plan.proofs.Bits.{implied, none-holds, none_within, told-low, both_hold, both-low, left-bits, right-bits, stop-bits, all-bits, bits-low}

module _ {table : List ℕ} {term : ℕ} {exits : List Exit} (e : Exits table term exits) (x y : Row) where
  abbrev o : ℕ
  o = code (term_at table term) x y

  o-low : o < 4
  o-low = code_below (outcome (term_at table term) x y)

  tells-low : (k : ℕ) → tells_at table exits x y k < 8
  unfolding tells_at
  tells-low k = told-low (mask_at exits k) (code (term_at table k) x y) (code_below (outcome (term_at table k) x y))

  tells_is : (k : ℕ) → tells_at table exits x y k ≡ told_code (mask_at exits k) (code (term_at table k) x y)
  unfolding tells_at
  tells_is k = refl

  silent : (k : ℕ) → mask_at exits k ≡ Nothing → bits (tells_at table exits x y k) ≡ 0
  unfolding tells_at told_code bits
  silent k z = rw z

  -- Nothing at first.
  pub known-none : Known table term exits x y 0 0
  known-none = record { few = omega arith; true_of = none-holds o o-low; told = λ h l. absurd (omega (arith, l)) }

  module _ {k known : ℕ} (now : Known table term exits x y k known) where
    -- A record that tells nothing adds nothing.
    pub known-silent : mask_at exits k ≡ Nothing → Known table term exits x y (k + 1) known
    known-silent z =
        record {
          few = now.few;
          true_of = now.true_of;
          told = λ h l. ⊎_elim
              (λ c. now.told h c)
              (λ c. rw c (rw (silent k z) (none_within (bits known) (bits-low known))))
              (lt-suc-cases h k (omega (arith, l)));
        }

    -- Any other adds what it tells.
    pub known_more : {v : ℕ} → v ≡ told_code (mask_at exits k) (code (term_at table k) x y)
        → Known table term exits x y (k + 1) (bit_or known v)
    known_more {v} is =
        let at-k : tells_at table exits x y k ≡ v = tells_is k ∙ sym is in
        let low : v < 8 = rw at-k at (tells-low k) in
        record {
          few = both-low known v now.few low;
          true_of = implied (holds known o && holds v o) (holds (bit_or known v) o)
              (both_hold known v o now.few low o-low) (and_i now.true_of (rw at-k at (e.each k x y)));
          told = λ h l. ⊎_elim
              (λ c. implied (within (bits (tells_at table exits x y h)) (bits known)) (within (bits (tells_at table exits x y h)) (bits (bit_or known v)))
              (left-bits (bits (tells_at table exits x y h)) known v (bits-low (tells_at table exits x y h)) now.few low) (now.told h c))
              (λ c. rw c (rw at-k (right-bits known v now.few low)))
              (lt-suc-cases h k (omega (arith, l)));
        }

    -- From 3 on it is the whole code,
    pub known-stop : 3 ≤ known → bits known ≡ o
    known-stop l =
        eqb-true (bits known) o
        (implied (holds known o && not (ltb known 3)) (eqb (bits known) o) (stop-bits known o now.few o-low)
        (and_i now.true_of (rw (le-ltb known 3 l) refl)))

    -- and when all records up to the term have told.
    pub known-all : term < k → bits known ≡ o
    known-all l =
        eqb-true (bits known) o
        (implied (holds known o && within o (bits known)) (eqb (bits known) o) (all-bits known o now.few o-low)
        (and_i now.true_of (e.whole x y (bits known) (bits-low known) (λ h b. now.told h (omega (arith, b, l))))))

  -- Records that tell nothing add nothing, however many.
  pub known_on : {k next known : ℕ} → Known table term exits x y (k + 1) known
      → ((h : ℕ) → k < h → h < next → mask_at exits h ≡ Nothing) → Known table term exits x y next known
  known_on {k} {next} {known} now quiet =
      record {
        few = now.few;
        true_of = now.true_of;
        told = λ h l. ⊎_elim
            (λ b. now.told h (ltb-true h (k + 1) b))
            (λ b. rw (silent h (quiet h (omega (arith, ltb-false h (k + 1) b)) l)) (none_within (bits known) (bits-low known)))
            (on-or-off (ltb h (k + 1)));
      }
