-- The buffers at the start and the answers at the end, over any relation: `beats j i` reads "row j is in row i's set and
-- better". Assumes nothing.
use Rattle.std.specs.Prelude.{◌≡◌, refl, true, false, List, ◌++◌, ℕ, ◌+◌, ◌-◌, ◌<◌, ◌≤◌, eqb, ltb, length, get_or, drop, replicate}
use Rattle.std.proofs.Common.{sym, ◌∙◌, inl, inr, arith}
use Rattle.std.proofs.Math.Logic.{⊎_elim}
use Rattle.std.proofs.Math.Bool.{and-false}
use Rattle.std.proofs.Math.ListN.{get_or-append}
use Rattle.std.proofs.lemmas.List.{length-replicate, get_or-replicate, get_or-append_right, get_or-drop}
use borrow.Author.Tests.{eqb-true, eq-eqb, ltb-true}
use Rattle.model.specs.Search.{any_below, fill}
use Rattle.model.specs.Query.{kept, answer}
use Rattle.laws.specs.Bools.{and_i, on-or-off}
use Rattle.laws.specs.Search.{any-i, find-is}
use Rattle.laws.specs.Order.{Rel, Strict}
use Rattle.laws.specs.Select.{dropped-beaten}
use Rattle.laws.specs.Answers.{answer-kept}
use Rattle.laws.specs.Fill.{fill-ext}
use Rattle.laws.specs.Wrote.{Wrote}
use Rattle.blocks.specs.Alive.{Above, Beyond}
use Rattle.laws.specs.Elimination.{Rounds, Settled}
use Rattle.laws.specs.Firsts.{Firsts, firsts-start}
use Rattle.laws.specs.Rounds.{rounds-start}
use Rattle.laws.specs.Named.{kept_better, named, Right, Named}
use Rattle.parts.specs.Entry.{entry_of, name_of, first_name}

-- ---- the start

-- A buffer of which the first n entries were filled with v, and the others left.
pub filled : (v n : ℕ) (old : List ℕ) {head : List ℕ} → n ≤ length old → head ≡ replicate n v
    → Wrote 0 (λ j. v) 0 n old (head ++ drop n old)
filled v n old {head} room is =
    let long : length head ≡ n = rw is (length-replicate n v) in
    record {
      made = λ j l.
          let q : 0 + j ≡ j = omega arith in
          rw q (get_or-append head (drop n old) 0 j (omega (arith, long)) ∙ rw is (get_or-replicate n j v 0 l));
      below = λ x l. absurd (omega arith);
      above = λ x l.
          let back : n + (x - n) ≡ x = omega arith in
          get_or-append_right head (drop n old) n x 0 long (omega arith) ∙ get_or-drop n old (x - n) 0 ∙ rw back;
    }

-- The first n entries were written.
written : (v n : ℕ) (old new : List ℕ) → Wrote 0 (λ j. v) 0 n old new → (j : ℕ) → j < n → get_or new j 0 ≡ v
written v n old new w j l = let q : 0 + j ≡ j = omega arith in rw q at (w.made j l)

-- No row is gone before the first round,
pub no-rounds : (beats : Rel ℕ) (n : ℕ) (old gone : List ℕ) → Wrote 0 (λ j. 0) 0 n old gone → Rounds beats n 0 gone
no-rounds beats n old gone w = rounds-start beats n gone (written 0 n old gone w)

-- and lanes that are no rows are gone where all were before.
pub rest-gone : (n : ℕ) (gone : List ℕ) → Wrote 0 (λ j. 0) 0 n (replicate 1024 1) gone → Above n gone
rest-gone n gone w =
    record {
      each = λ x p q z.
          let e : ◌≡◌ {A = ℕ} 1 0 = sym (get_or-replicate 1024 x 1 0 q) ∙ sym (w.above x (omega arith)) ∙ z in omega arith;
    }

-- The names that are known before a row names are right: a kept row in whose round a row was dropped is the lowest.
module _ (beats : Rel ℕ) (n : ℕ) (few : n ≤ 1024) (gone first : List ℕ) (settled : Settled beats n gone)
    (firsts : Firsts beats n gone first) where
  -- A row that is kept is not gone.
  kept-stays : (a : ℕ) → a < n → kept n beats a ≡ true → get_or gone a 0 ≡ 0
  kept-stays a l e = eqb-true (get_or gone a 0) 0 (settled.each a l ∙ e)

  module _ (i : ℕ) (l : i < n) (less : get_or first i 0 < i) (here : get_or gone (get_or first i 0) 0 ≡ 0) where
    abbrev v : ℕ
    v = get_or first i 0

    better : kept_better beats n i v ≡ true
    unfolding kept_better
    better = and_i (sym (settled.each v (omega (arith, less, l))) ∙ eq-eqb (get_or gone v 0) 0 here) (firsts.beaten i l less)

    none-lower : (a : ℕ) → a < v → kept_better beats n i a ≡ false
    unfolding kept_better
    none-lower a o =
        ⊎_elim
        (λ e. rw (firsts.lowest i l less a o (kept-stays a (omega (arith, o, less, l)) e)) (and-false (kept n beats a)))
        (λ e. rw e)
        (on-or-off (kept n beats a))

    lowest-named : v ≡ named beats n n i
    unfolding named
    lowest-named =
        rw (any-i n (kept_better beats n i) v (omega (arith, less, l)) better)
        (find-is n (kept_better beats n i) v (omega (arith, less, l)) better none-lower)

  right-name : (i : ℕ) → i < n → Right beats n 0 i (first_name gone first i)
  unfolding first_name name_of named any_below
  right-name i l =
      ⊎_elim
      (λ t. rw t (⊎_elim
      (λ z. rw z (inr (
        omega (arith, ltb-true (get_or first i 0) i t, l, few),
        lowest-named i l (ltb-true (get_or first i 0) i t) (eqb-true (get_or gone (get_or first i 0) 0) 0 z),
      )))
      (λ z. rw z (inl refl))
      (on-or-off (eqb (get_or gone (get_or first i 0) 0) 0))))
      (λ t. rw t (inl refl))
      (on-or-off (ltb (get_or first i 0) i))

  pub known-names : (old by : List ℕ) → Wrote 0 (first_name gone first) 0 n old by → Named beats n 0 by
  known-names old by w =
      record { each = λ i l d. let q : 0 + i ≡ i = omega arith in rw (rw q at (w.made i l)) (right-name i l) }

-- Lanes that are no rows need no name.
pub rest-named : {f : ℕ → ℕ} (n : ℕ) (by : List ℕ) → Wrote 0 f 0 n (replicate 1024 0) by → Beyond n by
rest-named n by w =
    record {
      each = λ x p q z.
          let e : ◌≡◌ {A = ℕ} 0 1024 = sym (get_or-replicate 1024 x 0 0 q) ∙ sym (w.above x (omega arith)) ∙ z in omega arith;
    }

-- No lower row is named before the first round.
pub no-firsts : (beats : Rel ℕ) (n : ℕ) (gone : List ℕ) → n ≤ 1024 → Firsts beats n gone (replicate 1024 1024)
no-firsts beats n gone few =
    firsts-start beats n gone (replicate 1024 1024)
    (λ j l.
    let is : get_or (replicate 1024 1024) j 0 ≡ 1024 = get_or-replicate {A = ℕ} 1024 j 1024 0 (omega (arith, l, few)) in
    omega (arith, is, l, few))

-- ---- the end

module _ (beats : Rel ℕ) (strict : Strict beats) (n : ℕ) (gone by : List ℕ) (settled : Settled beats n gone)
    (names : Named beats n n by) where
  -- The row that is named for a dropped row is its entry.
  named-answer : (i : ℕ) → kept n beats i ≡ false → named beats n n i ≡ answer n beats i
  unfolding named answer kept_better
  named-answer i d =
      let w = dropped-beaten beats strict n i d in
      rw (d, any-i n (kept_better beats n i) w.0 w.1 (and_i w.3 w.2))

  -- Each row's entry is its answer,
  entry-answer : (i : ℕ) → i < n → entry_of gone by i ≡ answer n beats i
  unfolding entry_of
  entry-answer i l =
      rw (settled.each i l) (⊎_elim
      (λ k. rw k (sym (answer-kept n beats i k)))
      (λ d. rw d (⊎_elim (λ e. e) (λ f. f.1) (names.each i l d) ∙ named-answer i d))
      (on-or-off (kept n beats i)))

  -- and so in the buffer.
  pub entries-answers : (before : List ℕ) → fill n (entry_of gone by) before ≡ fill n (answer n beats) before
  entries-answers before = fill-ext n (entry_of gone by) (answer n beats) before entry-answer
