-- The laws of elimination by rounds (SPECIFICATION, "Query"), over any relation: how a round begins, goes on and ends,
-- and that the rows which are not gone after all rounds are the kept ones. Assumes nothing.
use Rattle.std.specs.Prelude.{◌≡◌, Bool, true, false, ◌⊎◌, List, ℕ, ◌+◌, ◌<◌, ◌≤◌, length, get_or, set}
use Rattle.std.proofs.Common.{sym, ◌∙◌, ⊎_elim, arith, get_or-set_same, get_or-set_other, eq-eqb, ne_eqb}
use Rattle.std.proofs.lemmas.Bool.{false≢true}
use Rattle.std.proofs.Math.Dec.{eqb}
use Rattle.model.specs.Search.{count_below}
use Rattle.model.specs.Query.{kept, kept_count}
use Rattle.laws.specs.Bools.{on-or-off}
use Rattle.laws.specs.Search.{count-ext}
use Rattle.laws.specs.Order.{Rel, Strict}
use Rattle.laws.specs.Select.{dropped-i, dropped-beaten}
use Rattle.laws.specs.Cases.{below_or_not, equal_or_not}
use Rattle.laws.specs.Elimination.{Apart, Rounds, Turn, Met, Settled}

module _ (beats : Rel ℕ) (n : ℕ) where
  -- Before the first round, with no row gone.
  pub rounds-start : (gone : List ℕ) → ((j : ℕ) → j < n → get_or gone j 0 ≡ 0) → Rounds beats n 0 gone
  rounds-start gone z = record { dropped = λ j l e. absurd (e (z j l)); apart = λ a b l. absurd (omega arith) }

  -- ---- the round of row i

  -- At its beginning row i has met no later row.
  pub turn-start : (i m : ℕ) (gone : List ℕ) → m ≤ i + 1 → Rounds beats n i gone → Turn beats n i m gone
  turn-start i m gone l r = record { rest = r; met = λ b p q. absurd (omega arith) }

  -- Rows go: those that were gone stay gone, and row i beats each row that is newly gone.
  module _ (i : ℕ) (old new : List ℕ) (row : i < n)
      (stay : (j : ℕ) → j < n → get_or new j 0 ≡ 0 → get_or old j 0 ≡ 0)
      (why : (j : ℕ) → j < n → (get_or new j 0 ≡ 0 → ⊥) → (get_or old j 0 ≡ 0 → ⊥) ⊎ (beats i j ≡ true)) where
    -- What the rounds before found still holds,
    pub rounds-more : Rounds beats n i old → Rounds beats n i new
    rounds-more r =
        record {
          dropped = λ j l e. ⊎_elim (λ g. r.dropped j l g) (λ b. dropped-i n beats j i row b) (why j l e);
          apart = λ a b l h k x y. r.apart a b l h k (stay a (omega arith) x) (stay b k y);
        }

    -- and row i has met the rows below m' if those from m on that are not gone are apart from it.
    pub turn_more : (m m' : ℕ) → Turn beats n i m old
        → ((b : ℕ) → i < b → m ≤ b → b < m' → b < n → get_or new b 0 ≡ 0 → Apart beats i b) → Turn beats n i m' new
    turn_more m m' t here =
        record {
          rest = rounds-more t.rest;
          met = λ b p q r z. ⊎_elim (λ h. t.met b p h r (stay b r z)) (λ h. here b p h q r z) (below_or_not b m);
        }

  -- Row i has met all rows: its round is over.
  pub turn_end : (i m : ℕ) (gone : List ℕ) → n ≤ m → Turn beats n i m gone → Rounds beats n (i + 1) gone
  turn_end i m gone l t =
      record {
        dropped = t.rest.dropped;
        apart = λ a b h k r x y. ⊎_elim
            (λ p. t.rest.apart a b p k r x y)
            (λ p. let q : a ≡ i = omega arith in rw q (t.met b (omega arith) (omega arith) r y))
            (below_or_not a i);
      }

  -- Row i is gone already: it has no round.
  pub turn-gone : (i : ℕ) (gone : List ℕ) → (get_or gone i 0 ≡ 0 → ⊥) → Rounds beats n i gone → Rounds beats n (i + 1) gone
  turn-gone i gone e r =
      record {
        dropped = r.dropped;
        apart = λ a b h k q x y. ⊎_elim
            (λ p. r.apart a b p k q x y)
            (λ p. let f : a ≡ i = omega arith in absurd (e (rw f at x)))
            (below_or_not a i);
      }

  -- Row i is beaten: it goes, and its round is over.
  pub turn-lost : (i : ℕ) (gone : List ℕ) → i < length gone → kept n beats i ≡ false → Rounds beats n i gone
      → Rounds beats n (i + 1) (set gone i 1)
  turn-lost i gone l d r =
      turn-gone i (set gone i 1) (λ z. here (sym (get_or-set_same gone i 1 0 l) ∙ z)) (
      record {
        dropped = λ j h z. ⊎_elim
            (λ q. rw q d)
            (λ q. r.dropped j h (λ y. z (get_or-set_other gone i j 1 0 q ∙ y)))
            (equal_or_not j i);
        apart = λ a b h k q x y. r.apart a b h k q (before a x) (before b y);
      })
    where
      here : ◌≡◌ {A = ℕ} 1 0 → ⊥
      here e = omega arith

      before : (a : ℕ) → get_or (set gone i 1) a 0 ≡ 0 → get_or gone a 0 ≡ 0
      before a x =
          ⊎_elim
          (λ q. absurd (here (sym (get_or-set_same gone i 1 0 l) ∙ rw q at x)))
          (λ q. sym (get_or-set_other gone i a 1 0 q) ∙ x)
          (equal_or_not a i)

  -- ---- a meeting, after which row i may be beaten

  -- It is not: its round goes on.
  pub met-turn : (i m : ℕ) (gone : List ℕ) {lost : Bool} → Met beats n i m gone lost → lost ≡ false → Turn beats n i m gone
  met-turn i m gone r e = record { rest = r.rest; met = r.no e }

  pub turn-met : (i m : ℕ) (gone : List ℕ) → Turn beats n i m gone → Met beats n i m gone false
  turn-met i m gone t = record { rest = t.rest; yes = λ e. absurd (false≢true e); no = λ _. t.met }

  -- It is.
  pub lost-met : (i m : ℕ) (gone : List ℕ) → Rounds beats n i gone → kept n beats i ≡ false → Met beats n i m gone true
  lost-met i m gone r d = record { rest = r; yes = λ _. d; no = λ e. absurd (false≢true (sym e)) }

  -- ---- the end of all rounds

  -- Two rows that are not gone are apart.
  rows_apart : (gone : List ℕ) → Rounds beats n n gone → (a b : ℕ) → a < n → b < n → (a ≡ b → ⊥)
      → get_or gone a 0 ≡ 0 → get_or gone b 0 ≡ 0 → beats a b ≡ false
  rows_apart gone r a b l h d x y =
      ⊎_elim
      (λ p. (r.apart a b l p h x y).0)
      (λ p. (r.apart b a h (⊎_elim (λ u. u) (λ u. absurd (d (omega arith))) (below_or_not b a)) l y x).1)
      (below_or_not a b)

  -- A row is not gone exactly where it is kept: a dropped row is beaten by a kept one, which is not gone either.
  pub settled-of : (gone : List ℕ) → Strict beats → Rounds beats n n gone → Settled beats n gone
  settled-of gone s r =
      record {
        each = λ j l. ⊎_elim
            (λ z. eq-eqb (get_or gone j 0) 0 z ∙ sym (keeps j l z))
            (λ z. ne_eqb (get_or gone j 0) 0 z ∙ sym (r.dropped j l z))
            (equal_or_not (get_or gone j 0) 0);
      }
    where
      beaten : (j : ℕ) → j < n → get_or gone j 0 ≡ 0 → kept n beats j ≡ false → ⊥
      beaten j l z d =
          let w = dropped-beaten beats s n j d in
          let k = w.0 in
          ⊎_elim
          (λ y. false≢true (sym (rows_apart gone r k j w.1 l (λ q. s.irrefl j (rw q at w.2)) y z) ∙ w.2))
          (λ y. false≢true (sym (r.dropped k w.1 y) ∙ w.3))
          (equal_or_not (get_or gone k 0) 0)

      keeps : (j : ℕ) → j < n → get_or gone j 0 ≡ 0 → kept n beats j ≡ true
      keeps j l z = ⊎_elim (λ k. k) (λ d. absurd (beaten j l z d)) (on-or-off (kept n beats j))

  -- As many rows are not gone as are kept.
  pub count_kept : (gone : List ℕ) → Settled beats n gone → count_below n (λ j. eqb (get_or gone j 0) 0) ≡ kept_count n beats
  unfolding kept_count
  count_kept gone s = count-ext n (λ j. eqb (get_or gone j 0) 0) (kept n beats) s.each
