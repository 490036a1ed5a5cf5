-- The search for the lowest kept row that is better goes through the list of kept rows. Assumes nothing.
use mathlib.Core.Path.{◌≡◌, refl, sym, ◌∙◌}
use mathlib.Core.Bool.{Bool, true, false, ◌&&◌, and-false}
use mathlib.Core.Logic.{⊎_elim}
use mathlib.Core.List.{List}
use Prim.Native.Nat.{ℕ, zero, suc, ◌+◌, ◌<◌}
use native.Mathlib.Omega.{arith}
use lib.ListN.{get_or}
use borrow.Author.Tests.{eq-eqb, eqb-true}
use Rattle.model.specs.Search.{count_below}
use Rattle.model.specs.Query.{kept, kept_count, answer}
use Rattle.laws.specs.Bools.{and_i, on-or-off}
use Rattle.laws.specs.Search.{find-is, find_none}
use Rattle.laws.specs.Order.{Rel}
use Rattle.laws.specs.Cases.{below_or_not}
use Rattle.laws.specs.Elimination.{Settled, Beaten}
use Rattle.direct.specs.Kept.{Listed, lowest_kept}
use Rattle.direct.specs.Listing.{count_less}

-- None of the first z kept rows is better than row i.
pub record Sought (beats : Rel ℕ) (n i z : ℕ) : Type 0 where
  pub none : (k : ℕ) → k < n → kept n beats k ≡ true → count_below k (kept n beats) < z → beats k i ≡ false

-- A number below n that passes, with z passing below it.
abbrev Place : (ℕ → Bool) → ℕ → ℕ → Type 0
Place pass n z = (k : ℕ) × (k < n) × (pass k ≡ true) × (count_below k pass ≡ z)

count-place : (pass : ℕ → Bool) (n z : ℕ) → z < count_below n pass → Place pass n z
unfolding count_below
count-place pass zero z l = absurd (omega arith)
count-place pass (suc n) z l =
    ⊎_elim
    (λ h. let r = count-place pass n z h in (r.0, omega (arith, r.1), r.2, r.3))
    (λ h. ⊎_elim
    (λ b. let q : z < count_below n pass + 1 = rw b at l in (n, omega arith, b, omega arith))
    (λ b. let q : z < count_below n pass + 0 = rw b at l in absurd (omega arith))
    (on-or-off (pass n)))
    (below_or_not z (count_below n pass))

-- An entry of the list is a row that passes, in its place.
listed_at : (pass : ℕ → Bool) (n z : ℕ) (list : List ℕ) → Listed pass n list → z < count_below n pass
    → (get_or list z 0 < n) × (pass (get_or list z 0) ≡ true) × (count_below (get_or list z 0) pass ≡ z)
listed_at pass n z list s h =
    let r = count-place pass n z h in
    let e : get_or list z 0 ≡ r.0 = rw r.3 at (s.place r.0 r.1 r.2) in
    rw e (r.1, r.2, r.3)

-- An entry of the list of kept rows is a row.
pub listed-row : (beats : Rel ℕ) (n z : ℕ) (list : List ℕ) → Listed (kept n beats) n list → z < kept_count n beats
    → get_or list z 0 < n
unfolding kept_count
listed-row beats n z list s h = (listed_at (kept n beats) n z list s h).0

module _ (beats : Rel ℕ) (n i : ℕ) where
  module _ (z : ℕ) (list : List ℕ) (s : Listed (kept n beats) n list) (t : Sought beats n i z) where
    -- The entry at z is better.
    pub sought-hit : z < kept_count n beats → {r : Bool} → r ≡ beats (get_or list z 0) i → r ≡ true
        → get_or list z 0 ≡ lowest_kept n beats i
    unfolding lowest_kept kept_count
    sought-hit h is on =
        let e = sym is ∙ on in
        let a = listed_at (kept n beats) n z list s h in
        find-is n (λ j. kept n beats j && beats j i) (get_or list z 0) a.0 (and_i a.1 e)
        (λ k q. ⊎_elim
        (λ b. let f = count_less (kept n beats) k (get_or list z 0) q b in
        let g = a.2 in
        let m = a.0 in rw (b, t.none k (omega arith) b (omega arith)))
        (λ b. rw b)
        (on-or-off (kept n beats k)))

    -- The entry at z is row `by`, which is better.
    pub sought-by : z < kept_count n beats → (by : ℕ) → get_or list z 0 ≡ by → beats by i ≡ true
        → get_or list z 0 ≡ lowest_kept n beats i
    sought-by h by e on = sought-hit h refl (rw e on)

  -- The list has no further entry.
  pub sought-end : (z : ℕ) → z ≡ kept_count n beats → Sought beats n i z → n ≡ lowest_kept n beats i
  unfolding lowest_kept kept_count
  sought-end z q t =
      find_none n (λ j. kept n beats j && beats j i)
      (λ k l. ⊎_elim
      (λ b. let f = count_less (kept n beats) k n l b in rw (b, t.none k l b (omega arith)))
      (λ b. rw b)
      (on-or-off (kept n beats k)))

  -- So a dropped row's entry is found.
  pub answer-lowest : (r : ℕ) → kept n beats i ≡ false → r ≡ lowest_kept n beats i → r ≡ answer n beats i
  unfolding answer lowest_kept
  answer-lowest r d e = rw d e

  -- A kept row before row i that is named for it is the lowest that is better.
  pub by-lowest : (gone by : List ℕ) → Settled beats n gone → Beaten beats n gone by → i < n → (get_or gone i 0 ≡ 0 → ⊥)
      → get_or by i 0 < i → get_or gone (get_or by i 0) 0 ≡ 0 → get_or by i 0 ≡ lowest_kept n beats i
  unfolding lowest_kept
  by-lowest gone by s r l e m z =
      let w = r.each i l e in
      let b = get_or by i 0 in
      find-is n (λ j. kept n beats j && beats j i) b w.0
      (and_i (sym (s.each b w.0) ∙ eq-eqb (get_or gone b 0) 0 z) w.1)
      (λ a q. ⊎_elim
      (λ k. rw (r.first i l e m a q (eqb-true (get_or gone a 0) 0 (s.each a (omega (arith, q, w.0)) ∙ k)))
      (and-false (kept n beats a)))
      (λ k. rw k)
      (on-or-off (kept n beats a)))
