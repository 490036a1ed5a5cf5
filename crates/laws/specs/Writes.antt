-- Loops that write a stretch, entry by entry. Assumes nothing.
use Rattle.std.specs.Prelude.{◌≡◌, refl, List, ℕ, ◌+◌, ◌<◌, length, set}
use Rattle.std.proofs.Common.{◌∙◌, ⊎_elim, arith, get_or-set_same, get_or-set_other}
use Rattle.laws.specs.Search.{lt-suc-cases}
use Rattle.laws.specs.Wrote.{Wrote}

module _ {A : Type 0} (z : A) (f : ℕ → A) (a : ℕ) (d : List A) where
  -- Before the first entry nothing is written.
  pub wrote_none : Wrote z f a 0 d d
  wrote_none = record { made = λ j l. absurd (omega arith); below = λ x l. refl; above = λ x l. refl }

  -- One entry more.
  pub wrote-store : (j : ℕ) (l : List A) {v : A} → Wrote z f a j d l → a + j < length l → v ≡ f j
      → Wrote z f a (j + 1) d (set l (a + j) v)
  wrote-store j l {v} r room e =
      record {
        made = λ k h.
            ⊎_elim
            (λ q. get_or-set_other l (a + j) (a + k) v z (λ p. omega arith) ∙ r.made k q)
            (λ q. rw q (get_or-set_same l (a + j) v z room ∙ e))
            (lt-suc-cases k j (omega arith));
        below = λ x h. get_or-set_other l (a + j) x v z (λ p. omega arith) ∙ r.below x h;
        above = λ x h. get_or-set_other l (a + j) x v z (λ p. omega arith) ∙ r.above x (omega arith);
      }

-- One entry more of a stretch at the head.
pub wrote-head : {A : Type 0} (z : A) (f : ℕ → A) (d : List A) (j : ℕ) (l : List A) {v : A} → Wrote z f 0 j d l
    → j < length l → v ≡ f j → Wrote z f 0 (j + 1) d (set l j v)
wrote-head z f d j l {v} r room e =
    let q : 0 + j ≡ j = omega arith in rw q at (wrote-store z f 0 d j l {v = v} r (rw q room) e)
