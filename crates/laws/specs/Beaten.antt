-- The laws of the rows named for those that are gone: each beats the one it is named for. Over any relation. Assumes nothing.
use Rattle.std.specs.Prelude.{◌≡◌, refl, Bool, true, false, List, ℕ, ◌<◌, eqb, length, get_or, set}
use Rattle.std.proofs.Common.{sym, ◌∙◌, ⊎_elim, arith, get_or-set_same, get_or-set_other}
use mir.Val.{bool_byte}
use Rattle.laws.specs.Order.{Rel}
use Rattle.laws.specs.Cases.{equal_or_not}
use Rattle.laws.specs.Elimination.{Rounds, Beaten}

not-zero : (b : Bool) → (bool_byte b ≡ 0 → ⊥) → b ≡ true
not-zero true e = refl
not-zero false e = absurd (e refl)

module _ (beats : Rel ℕ) (n : ℕ) where
  -- No row is gone.
  pub beaten-start : (gone by : List ℕ) → ((j : ℕ) → j < n → get_or gone j 0 ≡ 0) → Beaten beats n gone by
  beaten-start gone by z = record { each = λ j l e. absurd (e (z j l)); first = λ j l e. absurd (e (z j l)) }

  -- Row i is named for row j, and beats it if v is not 0, which says that row j is gone.
  pub beaten-store : (gone by : List ℕ) (i j v : ℕ) → i < n → j < length gone → j < length by
      → ((v ≡ 0 → ⊥) → beats i j ≡ true) → (v ≡ 0 → get_or gone j 0 ≡ 0)
      → ((v ≡ 0 → ⊥) → i < j → (a : ℕ) → a < i → get_or gone a 0 ≡ 0 → beats a j ≡ false)
      → Beaten beats n gone by → Beaten beats n (set gone j v) (set by j i)
  beaten-store gone by i j v l g b why stay lower r =
      record {
        each = λ k h e. ⊎_elim
            (λ q. rw q (rw (get_or-set_same by j i 0 b) (l, why (gone-here k q e))))
            (λ q. rw (get_or-set_other by j k i 0 q) (r.each k h (λ z. e (get_or-set_other gone j k v 0 q ∙ z))))
            (equal_or_not k j);
        first = λ k h e m a o z. ⊎_elim
            (λ q. let w : get_or (set by j i) k 0 ≡ i = rw q (get_or-set_same by j i 0 b) in
            rw q (lower (gone-here k q e) (omega (arith, m, w, q)) a (omega (arith, o, w)) (before a z)))
            (λ q. r.first k h (λ y. e (get_or-set_other gone j k v 0 q ∙ y)) (rw (get_or-set_other by j k i 0 q) at m) a
            (rw (get_or-set_other by j k i 0 q) at o) (before a z))
            (equal_or_not k j);
      }
    where
      gone-here : (k : ℕ) → k ≡ j → (get_or (set gone j v) k 0 ≡ 0 → ⊥) → v ≡ 0 → ⊥
      gone-here k q e z = e (rw q (get_or-set_same gone j v 0 g ∙ z))

      -- A row that is not gone was not gone.
      before : (a : ℕ) → get_or (set gone j v) a 0 ≡ 0 → get_or gone a 0 ≡ 0
      before a z =
          ⊎_elim
          (λ q. rw q (stay (sym (get_or-set_same gone j v 0 g) ∙ rw q at z)))
          (λ q. sym (get_or-set_other gone j a v 0 q) ∙ z)
          (equal_or_not a j)

  -- The same in row i's round, by the code of the two rows: row j, which is not gone, goes where it is 1.
  pub beaten-code : (gone by : List ℕ) (i j c : ℕ) → i < n → j < n → j < length gone → j < length by
      → Rounds beats n i gone → get_or gone j 0 ≡ 0 → beats i j ≡ eqb c 1
      → Beaten beats n gone by → Beaten beats n (set gone j (bool_byte (eqb c 1))) (set by j i)
  beaten-code gone by i j c l h g b rounds z e r =
      beaten-store gone by i j (bool_byte (eqb c 1)) l g b (λ f. e ∙ not-zero (eqb c 1) f) (λ _. z)
      (λ f m a o y. (rounds.apart a j o (omega (arith, m, o)) h y z).0) r
