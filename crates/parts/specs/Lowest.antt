-- The lowest kept row that is better than row x, of one row more: row m comes after the rows below it. Assumes nothing.
use Rattle.std.specs.Prelude.{◌≡◌, Bool, true, false, cond, ◌&&◌, ℕ, ◌+◌, ◌<◌, eqb}
use Rattle.std.proofs.Math.Path.{sym}
use Rattle.std.proofs.Common.{◌∙◌, arith, add-one}
use Rattle.std.proofs.Math.Logic.{⊎_elim}
use borrow.Author.Tests.{eq-eqb, ne_eqb, lt-ltb}
use Rattle.model.specs.Search.{any_below, find_below}
use Rattle.model.specs.Query.{kept}
use Rattle.laws.specs.Bools.{on-or-off}
use Rattle.laws.specs.Search.{none-e, find-hit, find-is}
use Rattle.laws.specs.Order.{Rel}
use Rattle.laws.specs.Named.{kept_better, named}

module _ (beats : Rel ℕ) (n m x : ℕ) where
  abbrev better : ℕ → Bool
  better = kept_better beats n x

  -- A lower row was named.
  named_again : any_below m better ≡ true → named beats n (m + 1) x ≡ named beats n m x
  unfolding named any_below find_below
  named_again a = rw (add-one m, a, lt-ltb (find_below m better) m (find-hit m better a))

  -- Row m is the first.
  named-first : any_below m better ≡ false → better m ≡ true → named beats n (m + 1) x ≡ m
  unfolding named any_below
  named-first a e =
      let f : find_below (m + 1) better ≡ m = sym (find-is (m + 1) better m (omega arith) e (none-e m better a)) in
      rw f (rw (add-one m, a, e))

  -- Row m is not one.
  named-skip : better m ≡ false → named beats n (m + 1) x ≡ named beats n m x
  unfolding named any_below
  named-skip e = ⊎_elim named_again (λ (a : any_below m better ≡ false). rw (add-one m, a, e)) (on-or-off (any_below m better))

  named_some : any_below m better ≡ true → named beats n m x ≡ find_below m better
  unfolding named
  named_some a = rw a

  named_none : any_below m better ≡ false → named beats n m x ≡ 1024
  unfolding named
  named_none a = rw a

  -- Whether a kept row m is one is whether it beats row x.
  better-kept : kept n beats m ≡ true → better m ≡ beats m x
  unfolding kept_better
  better-kept k = rw k

  better-dropped : kept n beats m ≡ false → better m ≡ false
  unfolding kept_better
  better-dropped k = rw k

  -- A row m that is dropped is not named.
  pub named-dropped : kept n beats m ≡ false → named beats n (m + 1) x ≡ named beats n m x
  named-dropped k = named-skip (better-dropped k)

  -- Row m, which is kept, is named where none is and it beats row x.
  pub named-next : kept n beats m ≡ true → m < 1024 → {y : ℕ} → y ≡ named beats n m x
      → cond (eqb y 1024 && beats m x) m y ≡ named beats n (m + 1) x
  named-next k few {y} e =
      ⊎_elim
      (λ a. let f = find-hit m better a in
      let q : y ≡ find_below m better = e ∙ named_some a in
      rw (ne_eqb y 1024 (λ r. omega arith)) (e ∙ sym (named_again a)))
      (λ a. rw (eq-eqb y 1024 (e ∙ named_none a)) (⊎_elim
      (λ b. rw b (sym (named-first a (better-kept k ∙ b))))
      (λ b. rw b (e ∙ sym (named-skip (better-kept k ∙ b))))
      (on-or-off (beats m x))))
      (on-or-off (any_below m better))
