-- Naming row after row, over any relation: a row that waits gets the lowest kept row that beats it. Assumes nothing.
use mathlib.Core.Path.{◌≡◌, refl, sym, ◌∙◌}
use mathlib.Core.Logic.{inl, inr, ⊎_elim}
use mathlib.Core.Bool.{true, false, false≢true}
use mathlib.Core.List.{List}
use Prim.Native.Nat.{ℕ, ◌+◌, ◌<◌}
use native.Mathlib.Omega.{arith}
use lib.ListN.{length, get_or, set}
use lib.Seq.{get_or-set_same, get_or-set_other}
use Rattle.model.specs.Search.{any_below}
use Rattle.model.specs.Query.{kept}
use Rattle.laws.specs.Order.{Rel}
use Rattle.laws.specs.Cases.{equal_or_not}
use Rattle.laws.specs.Named.{named, Right, Named, NamedTo}

module _ (beats : Rel ℕ) (n : ℕ) where
  -- No row is below row 0.
  none_named : (i : ℕ) → named beats n 0 i ≡ 1024
  unfolding named any_below
  none_named i = refl

  -- A name that was given before is the lowest.
  known-right : (i v : ℕ) → (v ≡ 1024 → ⊥) → Right beats n 0 i v → Right beats n n i v
  known-right i v e r = ⊎_elim (λ q. absurd (e (q ∙ none_named i))) (λ f. inr f) r

  -- Before the first row none has its name but those that were given,
  pub to_start : (by : List ℕ) → Named beats n 0 by → NamedTo beats n 0 by
  to_start by r = record { done = λ i l. absurd (omega arith); left = λ i _ l d. r.each i l d }

  -- and after the last each has.
  pub to_end : (by : List ℕ) → NamedTo beats n n by → Named beats n n by
  to_end by r = record { each = λ i l d. r.done i l l d }

  module _ (m : ℕ) (by : List ℕ) (before : NamedTo beats n m by) where
    -- Row m is right as it is.
    to_next : (m < n → kept n beats m ≡ false → Right beats n n m (get_or by m 0)) → NamedTo beats n (m + 1) by
    to_next right =
        record {
          done = λ i p l d. ⊎_elim
              (λ q. let f : kept n beats m ≡ false = rw q at d in rw q (right (omega arith) f))
              (λ q. before.done i (omega arith) l d)
              (equal_or_not i m);
          left = λ i p l d. before.left i (omega arith) l d;
        }

    -- It is kept,
    pub to_kept : kept n beats m ≡ true → NamedTo beats n (m + 1) by
    to_kept k = to_next (λ l d. absurd (false≢true (sym d ∙ k)))

    -- or it has its name,
    pub to_known : (get_or by m 0 ≡ 1024 → ⊥) → NamedTo beats n (m + 1) by
    to_known e = to_next (λ l d. known-right m (get_or by m 0) e (before.left m (omega arith) l d))

    -- or there is none,
    pub to_none : get_or by m 0 ≡ 1024 → named beats n n m ≡ 1024 → NamedTo beats n (m + 1) by
    to_none e z = to_next (λ l d. inl (e ∙ sym z))

    -- or it gets it.
    pub to_named : {v : ℕ} → m < length by → v ≡ named beats n n m → NamedTo beats n (m + 1) (set by m v)
    to_named {v} room e =
        record {
          done = λ i p l d. ⊎_elim
              (λ q. rw q (inl (get_or-set_same by m v 0 room ∙ e)))
              (λ q. rw (get_or-set_other by m i v 0 q) (before.done i (omega arith) l d))
              (equal_or_not i m);
          left = λ i p l d. rw (get_or-set_other by m i v 0 (λ q. omega arith)) (before.left i (omega arith) l d);
        }
