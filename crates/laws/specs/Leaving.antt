-- Leaving out dropped rows, and any number of catalogues (SPECIFICATION, "Leaving out rows"), over any strict order of
-- numbered rows and any number of them. `beats j i` reads "j beats i". Assumes nothing.
use Rattle.std.specs.Prelude.{◌≡◌, refl, Bool, cond, ◌&&◌, List, [], ◌∷◌, ℕ, ◌+◌, ◌-◌, ◌<◌, ◌≤◌, ltb}
use Rattle.std.proofs.Math.Path.{sym, ap}
use Rattle.std.proofs.Common.{◌∙◌, arith, ltb-true, ltb-false}
use Rattle.std.proofs.Math.Logic.{⊎_elim}
use Rattle.std.proofs.Math.Bool.{true, false}
use Rattle.model.specs.Search.{count_below}
use Rattle.model.specs.Query.{kept, answer, kept_count}
use Rattle.model.specs.Leaving.{old_number, by_catalogue}
use Rattle.laws.specs.Bools.{and_i, and_r, on-or-off, same_test}
use Rattle.laws.specs.Order.{Rel, Strict}
use Rattle.laws.specs.Search.{count-ext}
use Rattle.laws.specs.Select.{kept-i, kept-e, dropped-beaten}
use Rattle.laws.specs.Answers.{answer-kept, answer-lowest, answer-row}
use Rattle.laws.specs.Renumbered.{old-is, new-of, old-rising, count_left}

-- Row j beats row i, by their numbers among those that are left.
unfoldable pub left_beats : ℕ → (ℕ → Bool) → Rel ℕ → Rel ℕ
left_beats n stays beats j i = beats (old_number n stays j) (old_number n stays i)

module _ (beats : Rel ℕ) (strict : Strict beats) (n : ℕ) (stays : ℕ → Bool)
    (holds : (k : ℕ) → k < n → kept n beats k ≡ true → stays k ≡ true) where
  abbrev m : ℕ
  m = count_below n stays

  abbrev old : ℕ → ℕ
  old = old_number n stays

  abbrev left : Rel ℕ
  left = left_beats n stays beats

  left-strict : Strict left
  unfolding left_beats
  left-strict =
      record {
        irrefl = λ i h. strict.irrefl (old i) h;
        trans = λ i j k h l. strict.trans (old i) (old j) (old k) h l;
      }

  -- The same rows are kept,
  pub kept-left : (i : ℕ) → i < m → kept m left i ≡ kept n beats (old i)
  unfolding left_beats
  kept-left i h =
      same_test (kept m left i) (kept n beats (old i))
      (λ k. ⊎_elim (λ e. e) (λ d. absurd (still k d)) (on-or-off (kept n beats (old i))))
      (λ k. kept-i m left i (λ j l b. kept-e n beats (old i) k (old j) (old-is n stays j l).row b))
    where
      still : kept m left i ≡ true → kept n beats (old i) ≡ false → ⊥
      still k d =
          let r = dropped-beaten beats strict n (old i) d in
          let s = new-of n stays r.0 r.1 (holds r.0 r.1 r.3) in
          kept-e m left i k (count_below r.0 stays) s.0 (rw s.1 r.2)

  -- as many,
  pub count-kept-left : kept_count m left ≡ kept_count n beats
  unfolding kept_count
  count-kept-left =
      count-ext m (kept m left) (λ i. kept n beats (old i)) kept-left
      ∙ count_left n stays (kept n beats)
      ∙ count-ext n (λ k. stays k && kept n beats k) (kept n beats)
      (λ k h. same_test (stays k && kept n beats k) (kept n beats k) (λ e. and_r (stays k) _ e) (λ e. and_i (holds k h e) e))

  -- each entry is the number of a row that is left,
  pub answer-is-left : (i : ℕ) → i < m → answer m left i < m
  answer-is-left i h = answer-row left left-strict m i h

  -- and each remaining dropped row names the same better row.
  pub answer-left : (i : ℕ) → i < m → old (answer m left i) ≡ answer n beats (old i)
  unfolding left_beats
  answer-left i h = ⊎_elim own named (on-or-off (kept n beats (old i)))
    where
      own : kept n beats (old i) ≡ true → old (answer m left i) ≡ answer n beats (old i)
      own k = ap old (answer-kept m left i (kept-left i h ∙ k)) ∙ sym (answer-kept n beats (old i) k)

      -- r is the lowest that is left, t the lowest of all, which has number j now.
      same : (r j t : ℕ) → r ≤ j → t ≤ old r → old j ≡ t → j < m → old r ≡ t
      same r j t low up e hj =
          ⊎_elim
          (λ l. let q = old-rising n stays r j (ltb-true r j l) hj in absurd (omega (arith, q, up, e)))
          (λ l. let z : r ≡ j = omega (arith, low, ltb-false r j l) in rw z e)
          (on-or-off (ltb r j))

      named : kept n beats (old i) ≡ false → old (answer m left i) ≡ answer n beats (old i)
      named d =
          let a = answer-lowest left left-strict m i (kept-left i h ∙ d) in
          let b = answer-lowest beats strict n (old i) d in
          let r = answer m left i in
          let t = answer n beats (old i) in
          let kt = kept-i n beats t b.keeps in
          let s = new-of n stays t b.row (holds t b.row kt) in
          let j = count_below t stays in
          let low : r ≤ j =
          a.lowest j s.0 (kept-e m left j (kept-left j s.0 ∙ rw s.1 kt)) (rw s.1 b.better) in
          let up : t ≤ old r =
          b.lowest (old r) (old-is n stays r a.row).row
          (kept-e n beats (old r) (sym (kept-left r a.row) ∙ kept-i m left r a.keeps)) a.better in
          same r j t low up s.1 s.0

-- ---- any number of catalogues

-- How many rows the catalogues have together: each has so many.
unfoldable pub rows_of_all : List ℕ → ℕ
rows_of_all [] = 0
rows_of_all (n ∷ rest) = n + rows_of_all rest

-- Row i, the rows of each catalogue numbered after those of the catalogues before it, is kept in its own.
unfoldable pub kept_in_own : List ℕ → Rel ℕ → ℕ → Bool
kept_in_own [] beats i = false
kept_in_own (n ∷ rest) beats i = by_catalogue n (kept n beats) (kept_in_own rest (λ j i. beats (n + j) (n + i))) i

-- What is kept of all together is kept in its own: with fewer rows there are fewer better ones.
pub own-holds : (catalogues : List ℕ) (beats : Rel ℕ) (i : ℕ) → i < rows_of_all catalogues
    → kept (rows_of_all catalogues) beats i ≡ true → kept_in_own catalogues beats i ≡ true
unfolding rows_of_all kept_in_own by_catalogue
own-holds [] beats i h k = absurd (omega arith)
own-holds (n ∷ rest) beats i h k =
    go (ltb i n) refl (own-holds rest (λ j i. beats (n + j) (n + i)) (i - n))
  where
    later : Rel ℕ
    later j i = beats (n + j) (n + i)

    go : (c : Bool) → ltb i n ≡ c
        → (i - n < rows_of_all rest → kept (rows_of_all rest) later (i - n) ≡ true → kept_in_own rest later (i - n) ≡ true)
        → cond c (kept n beats i) (kept_in_own rest later (i - n)) ≡ true
    go true e ih = kept-i n beats i (λ j l b. kept-e (n + rows_of_all rest) beats i k j (omega (arith, l)) b)
    go false e ih =
        let z : n + (i - n) ≡ i = omega (arith, ltb-false i n e) in
        ih (omega (arith, h, ltb-false i n e))
        (kept-i (rows_of_all rest) later (i - n)
        (λ j l b. kept-e (n + rows_of_all rest) beats i k (n + j) (omega (arith, l)) (rw z at b)))
