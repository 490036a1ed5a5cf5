-- A mask is entered or taken out: what is told stays true, and all of the asked term's code stays told. Assumes nothing.
use mathlib.Core.Path.{◌≡◌, refl, sym, ◌∙◌}
use mathlib.Core.Logic.{◌⊎◌, ⊎_elim}
use mathlib.Core.Bool.{true, false, false≢true}
use mathlib.Core.List.{List}
use Prim.Native.Nat.{ℕ, zero, suc, ◌<◌, ◌≤◌}
use native.Mathlib.Omega.{arith}
use lib.Dec.{eqb}
use lib.ListN.{length, get_or, set, length-set, replicate, length-replicate}
use lib.Seq.{get_or-set_same, get_or-set_other}
use borrow.Author.Tests.{eqb-true, eqb-false, eq-eqb}
use Rattle.model.specs.Record.{record_at, is_term}
use Rattle.model.specs.Term.{term_at}
use Rattle.model.specs.Better.{Row}
use Rattle.model.specs.Compare.{outcome}
use Rattle.laws.specs.Bools.{on-or-off, and_l, and_r}
use Rattle.laws.specs.Codes.{code, code_below}
use Rattle.plan.specs.declared.vetted.exit_masks.{Exit.Exit}
use Rattle.plan.specs.declared.vetted.exit_masks.Exit.TheVariants.{Nothing, Bits, All}
use Rattle.plan.specs.Told.{told_code, bits, within, holds}
use Rattle.plan.specs.Exits.{mask_at, tells_at, Exits}
use Rattle.plan.proofs.Bits.{none-holds, none_within, own-holds, own_bits}

-- The mask Nothing tells nothing.
told_none : (c : ℕ) → told_code Nothing c ≡ 0
unfolding told_code
told_none c = refl

no_bits : (w : ℕ) → w < 4 → within (bits 0) w ≡ true
unfolding bits
no_bits w l = none_within w l

-- ---- one mask set

module _ (exits : List Exit) (room : length exits ≡ 128) (p : ℕ) (v : Exit) (l : p < 128) where
  pub mask-here : (k : ℕ) → eqb k p ≡ true → mask_at (set exits p v) k ≡ v
  unfolding mask_at
  mask-here k t = rw (eqb-true k p t) (get_or-set_same exits p v Nothing (omega (arith, room)))

  pub mask-other : (k : ℕ) → eqb k p ≡ false → mask_at (set exits p v) k ≡ mask_at exits k
  unfolding mask_at
  mask-other k t = get_or-set_other exits p k v Nothing (eqb-false k p t)

module _ (table : List ℕ) (term : ℕ) (exits : List Exit) (e : Exits table term exits) where
  module _ (p : ℕ) (v : Exit) (l : p < 128) where
    here : (k : ℕ) → eqb k p ≡ true → mask_at (set exits p v) k ≡ v
    here = mask-here exits e.room p v l

    other : (k : ℕ) → eqb k p ≡ false → mask_at (set exits p v) k ≡ mask_at exits k
    other = mask-other exits e.room p v l

    -- What the other records tell stays.
    pub tells-other : (x y : Row) (k : ℕ) → eqb k p ≡ false → tells_at table (set exits p v) x y k ≡ tells_at table exits x y k
    unfolding tells_at
    tells-other x y k t = rw (other k t)

    -- Record p tells by its mask.
    pub tells-here : (x y : Row) (k : ℕ) → eqb k p ≡ true
        → tells_at table (set exits p v) x y k ≡ told_code v (code (term_at table p) x y)
    unfolding tells_at
    tells-here x y k t = rw (here k t, eqb-true k p t)

    tells-by : (x y : Row) (m : Exit) → mask_at exits p ≡ m → tells_at table exits x y p ≡ told_code m (code (term_at table p) x y)
    unfolding tells_at
    tells-by x y m is = rw is

    -- Record p tells what is true, and no less than before.
    pub mask-entered : is_term (record_at table p) ≡ true
        → ((x y : Row) → holds (told_code v (code (term_at table p) x y)) (code (term_at table term) x y) ≡ true)
        → ((mask_at exits p ≡ Nothing) ⊎ (mask_at exits p ≡ v)) → Exits table term (set exits p v)
    mask-entered is true-told before =
        record {
          room = simp length-set e.room;
          terms = λ k n. ⊎_elim
              (λ t. absurd (false≢true (sym n ∙ rw (eqb-true k p t) is)))
              (λ t. other k t ∙ e.terms k n)
              (on-or-off (eqb k p));
          each = λ k x y. ⊎_elim
              (λ t. rw (tells-here x y k t) (true-told x y))
              (λ t. rw (tells-other x y k t) (e.each k x y))
              (on-or-off (eqb k p));
          whole = λ x y w b all. e.whole x y w b
              (λ k m. ⊎_elim (λ t. no_less x y w b k t (all k m)) (λ t. rw (tells-other x y k t) at (all k m)) (on-or-off (eqb k p)));
        }
      where
        no_less : (x y : Row) (w : ℕ) → w < 4 → (k : ℕ) → eqb k p ≡ true
            → within (bits (tells_at table (set exits p v) x y k)) w ≡ true → within (bits (tells_at table exits x y k)) w ≡ true
        no_less x y w b k t new =
            ⊎_elim
            (λ z. rw (eqb-true k p t, tells-by x y Nothing z, told_none (code (term_at table p) x y)) (no_bits w b))
            (λ s. rw (eqb-true k p t, tells-by x y v s) (rw (tells-here x y k t) at new))
            before

    -- Record p tells nothing any more, where two others tell all that it told.
    pub mask-cleared : (a b : ℕ) → eqb a p ≡ false → eqb b p ≡ false → a ≤ term → b ≤ term → v ≡ Nothing
        → ((x y : Row) (w : ℕ) → w < 4 → within (bits (tells_at table exits x y a)) w ≡ true
        → within (bits (tells_at table exits x y b)) w ≡ true → within (bits (tells_at table exits x y p)) w ≡ true)
        → Exits table term (set exits p v)
    mask-cleared a b na nb la lb none told-by =
        record {
          room = simp length-set e.room;
          terms = λ k n. ⊎_elim (λ t. here k t ∙ none) (λ t. other k t ∙ e.terms k n) (on-or-off (eqb k p));
          each = λ k x y. ⊎_elim
              (λ t. rw (tells-here x y k t, none, told_none (code (term_at table p) x y))
              (none-holds (code (term_at table term) x y) (code_below (outcome (term_at table term) x y))))
              (λ t. rw (tells-other x y k t) (e.each k x y))
              (on-or-off (eqb k p));
          whole = λ x y w s all. e.whole x y w s
              (λ k m. ⊎_elim
              (λ t. rw (eqb-true k p t) (told-by x y w s (rw (tells-other x y a na) at (all a la)) (rw (tells-other x y b nb) at (all b lb))))
              (λ t. rw (tells-other x y k t) at (all k m)) (on-or-off (eqb k p)));
        }

-- ---- the asked term's own mask

zero-at : (n k : ℕ) → get_or (replicate n Nothing) k Nothing ≡ Nothing
zero-at zero k = refl
zero-at (suc n) zero = refl
zero-at (suc n) (suc k) = zero-at n k

module _ (table : List ℕ) (term : ℕ) (l : term < 128) (is : is_term (record_at table term) ≡ true) (none : List Exit)
    (blank : none ≡ replicate 128 Nothing) where
  none-room : length none ≡ 128
  none-room = rw blank (length-replicate {A = Exit} 128 Nothing)

  none-mask : (k : ℕ) → mask_at none k ≡ Nothing
  unfolding mask_at
  none-mask k = rw blank (zero-at 128 k)

  -- At first it alone tells, and it tells all.
  start-with : (m : Exit)
      → ((c : ℕ) → c < 4 → (holds (told_code m c) c ≡ true) × (bits (told_code m c) ≡ c)) → Exits table term (set none term m)
  unfolding tells_at
  start-with m own =
      record {
        room = simp length-set none-room;
        terms = λ k n. ⊎_elim
            (λ t. absurd (false≢true (sym n ∙ rw (eqb-true k term t) is))) (λ t. other k t) (on-or-off (eqb k term));
        each = λ k x y. ⊎_elim
            (λ t. rw (here k t, eqb-true k term t) (own (code (term_at table term) x y) (code_below (outcome (term_at table term) x y))).0)
            (λ t. rw (other k t, told_none (code (term_at table k) x y))
            (none-holds (code (term_at table term) x y) (code_below (outcome (term_at table term) x y))))
            (on-or-off (eqb k term));
        whole = λ x y w b all.
            rw (here term (eq-eqb term term refl), (own (code (term_at table term) x y) (code_below (outcome (term_at table term) x y))).1)
            at (all term (omega arith));
      }
    where
      here : (k : ℕ) → eqb k term ≡ true → mask_at (set none term m) k ≡ m
      here = mask-here none none-room term m l

      other : (k : ℕ) → eqb k term ≡ false → mask_at (set none term m) k ≡ Nothing
      other k t = mask-other none none-room term m l k t ∙ none-mask k

  pub start-bits : Exits table term (set none term Bits)
  start-bits = start-with Bits
      (λ c b. (and_l (holds (told_code Bits c) c) (holds (told_code All c) c) (own-holds c b), eqb-true _ _ (and_l (eqb (bits (told_code Bits c)) c) (eqb (bits (told_code All c)) c) (own_bits c b))))

  pub start-all : Exits table term (set none term All)
  start-all = start-with All
      (λ c b. (and_r (holds (told_code Bits c) c) (holds (told_code All c) c) (own-holds c b), eqb-true _ _ (and_r (eqb (bits (told_code Bits c)) c) (eqb (bits (told_code All c)) c) (own_bits c b))))
