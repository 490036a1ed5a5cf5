-- Row i meets row j, row by row: what it has met after it. Over any relation. Assumes nothing.
use Rattle.std.specs.Prelude.{◌≡◌, true, false, List, ℕ, ◌+◌, ◌<◌, eqb, length, get_or, set}
use Rattle.std.proofs.Common.{sym, ◌∙◌, inl, inr, ⊎_elim, arith, get_or-set_same, get_or-set_other, eqb-true}
use Rattle.std.proofs.lemmas.List.{set-get_or}
use mir.Val.{bool_byte}
use Rattle.laws.specs.Bools.{on-or-off}
use Rattle.laws.specs.Order.{Rel}
use Rattle.laws.specs.Select.{dropped-i}
use Rattle.laws.specs.Cases.{equal_or_not}
use Rattle.laws.specs.Elimination.{Turn, Met}
use Rattle.laws.specs.Rounds.{turn_more, turn-met, lost-met}

module _ (beats : Rel ℕ) (n i j : ℕ) (gone : List ℕ) (t : Turn beats n i j gone) where
  -- Row j is better: row i is beaten.
  pub meet-beaten : j < n → beats j i ≡ true → Met beats n i (j + 1) gone true
  meet-beaten l e = lost-met beats n i (j + 1) gone t.rest (dropped-i n beats i j l e)

  -- Row j is gone.
  pub meet-gone : i < n → (get_or gone j 0 ≡ 0 → ⊥) → Met beats n i (j + 1) gone false
  meet-gone l e =
      turn-met beats n i (j + 1) gone (turn_more beats n i gone gone l (λ b h z. z) (λ b h z. inl z) j (j + 1) t
      (λ b p q r h z. let f : b ≡ j = omega arith in absurd (e (rw f at z))))

  -- Neither is better.
  pub meet-apart : i < n → beats i j ≡ false → beats j i ≡ false → Met beats n i (j + 1) gone false
  meet-apart l e f =
      turn-met beats n i (j + 1) gone (turn_more beats n i gone gone l (λ b h z. z) (λ b h z. inl z) j (j + 1) t
      (λ b p q r h z. let g : b ≡ j = omega arith in rw g (e, f)))

  -- Row i is better: row j goes.
  pub meet-wins : i < n → j < length gone → beats i j ≡ true → Met beats n i (j + 1) (set gone j 1) false
  meet-wins l room e =
      turn-met beats n i (j + 1) (set gone j 1) (turn_more beats n i gone (set gone j 1) l
      (λ b h z. sym (get_or-set_other gone j b 1 0 (here b z)) ∙ z)
      (λ b h z. ⊎_elim
      (λ q. inr (rw q e))
      (λ q. inl (λ y. z (get_or-set_other gone j b 1 0 q ∙ y)))
      (equal_or_not b j))
      j (j + 1) t
      (λ b p q r h z. absurd (here b z (omega arith))))
    where
      one : ◌≡◌ {A = ℕ} 1 0 → ⊥
      one q = omega arith

      here : (b : ℕ) → get_or (set gone j 1) b 0 ≡ 0 → b ≡ j → ⊥
      here b z q = one (sym (get_or-set_same gone j 1 0 room) ∙ rw q at z)

  -- Row j is not gone, and the rows have code c: row j goes where it is 1, and row i is beaten where it is 2.
  pub meet-code : (c : ℕ) → i < n → j < n → j < length gone → get_or gone j 0 ≡ 0 → beats i j ≡ eqb c 1 → beats j i ≡ eqb c 2
      → Met beats n i (j + 1) (set gone j (bool_byte (eqb c 1))) (eqb c 2)
  meet-code c l h room z e f =
      ⊎_elim
      (λ p. let q = eqb-true c 1 p in rw q (meet-wins l room (rw q at e)))
      (λ p. rw p (rw kept (⊎_elim
      (λ q. rw q (meet-beaten h (f ∙ q)))
      (λ q. rw q (meet-apart l (e ∙ p) (f ∙ q)))
      (on-or-off (eqb c 2)))))
      (on-or-off (eqb c 1))
    where
      kept : set gone j 0 ≡ gone
      kept = rw z at (set-get_or gone j 0)
