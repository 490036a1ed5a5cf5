-- The rows of a run that are left, and two catalogues (SPECIFICATION, "Leaving out rows"), by whatever strict order of rows:
-- `worse x y` reads "y is better than x". Any number of rows. Assumes nothing.
use Rattle.std.specs.Prelude.{◌≡◌, refl, Bool, true, ◌&&◌, List, [], ◌∷◌, ◌++◌, ℕ, ◌+◌, ◌*◌, ◌-◌, ◌<◌, ◌≤◌, ltb, ℤ, length}
use Rattle.std.proofs.Math.Path.{sym}
use Rattle.std.proofs.Common.{◌∙◌, ap}
use Rattle.std.proofs.Math.Logic.{⊎_elim}
use Rattle.std.proofs.lemmas.Bool.{false≢true}
use native.Mathlib.Omega.{arith}
use borrow.Author.Tests.{ltb-true, ltb-false, lt-ltb, le-ltb}
use Rattle.model.specs.Search.{count_below}
use Rattle.model.specs.Term.{Term}
use Rattle.model.specs.Better.{Row, equal_in, better}
use Rattle.model.specs.Query.{kept, answer, kept_count, row_at, beats_in}
use Rattle.model.specs.Leaving.{left_below, old_number, by_catalogue}
use Rattle.laws.specs.Bools.{and_l, and_r, and_i, off, on-or-off}
use Rattle.laws.specs.Order.{Rel, Strict}
use Rattle.laws.specs.Masks.{equal_in-trans}
use Rattle.laws.specs.Select.{kept-ext}
use Rattle.laws.specs.Answers.{answer-ext, kept-count-ext}
use Rattle.laws.specs.Renumbered.{new-of}
use Rattle.laws.specs.Leaving.{left_beats, kept-left, count-kept-left, answer-left, rows_of_all, kept_in_own, own-holds}
use Rattle.laws.specs.LeftRows.{row_first, row-second, left-row, left-ext, left-twice, left-append}

-- Row j of a run beats row i.
unfoldable pub beats_over : Rel Row → ℕ → List ℤ → Rel ℕ
beats_over worse w run j i = worse (row_at w run i) (row_at w run j)

module _ (worse : Rel Row) (strict : Strict worse) (w : ℕ) where
  over-strict : (run : List ℤ) → Strict (beats_over worse w run)
  unfolding beats_over
  over-strict run =
      record {
        irrefl = λ i h. strict.irrefl (row_at w run i) h;
        trans = λ i j k h l. strict.trans (row_at w run k) (row_at w run j) (row_at w run i) l h;
      }

  -- ---- the rows that are left

  module _ (run : List ℤ) (n : ℕ) (whole : n * w ≤ length run) (stays : ℕ → Bool)
      (holds : (k : ℕ) → k < n → kept n (beats_over worse w run) k ≡ true → stays k ≡ true) where
    abbrev m : ℕ
    m = count_below n stays

    abbrev left : List ℤ
    left = left_below w run stays n

    abbrev beats : Rel ℕ
    beats = beats_over worse w run

    abbrev again : Rel ℕ
    again = beats_over worse w left

    same-beats : (j i : ℕ) → j < m → i < m → again j i ≡ left_beats n stays beats j i
    unfolding beats_over left_beats
    same-beats j i h k = rw (left-row w run stays n whole i k, left-row w run stays n whole j h)

    -- The same rows are kept,
    pub kept_again : (i : ℕ) → i < m → kept m again i ≡ kept n beats (old_number n stays i)
    kept_again i h =
        kept-ext m again (left_beats n stays beats) i (λ j l. same-beats j i l h)
        ∙ kept-left beats (over-strict run) n stays holds i h

    -- as many,
    pub count-again : kept_count m again ≡ kept_count n beats
    count-again =
        kept-count-ext m again (left_beats n stays beats) same-beats
        ∙ count-kept-left beats (over-strict run) n stays holds

    -- the same as a run,
    pub rows-again : left_below w left (kept m again) m ≡ left_below w run (kept n beats) n
    rows-again =
        left-twice w run stays (kept m again) n whole
        ∙ left-ext w run run (λ k. stays k && kept m again (count_below k stays)) (kept n beats) n (λ i h. refl) same
      where
        same : (k : ℕ) → k < n → (stays k && kept m again (count_below k stays)) ≡ kept n beats k
        same k h = ⊎_elim
            (λ e. let o = new-of n stays k h e in
            rw e (kept_again (count_below k stays) o.0 ∙ ap (kept n beats) o.1))
            (λ e. rw e (sym (off (kept n beats k) (λ q. false≢true (sym e ∙ holds k h q)))))
            (on-or-off (stays k))

    -- and each remaining dropped row names the same better row.
    pub answer-again : (i : ℕ) → i < m → old_number n stays (answer m again i) ≡ answer n beats (old_number n stays i)
    answer-again i h =
        ap (old_number n stays) (answer-ext m again (left_beats n stays beats) same-beats i h)
        ∙ answer-left beats (over-strict run) n stays holds i h

  -- ---- two catalogues

  module _ (a b : List ℤ) (c d : ℕ) (la : length a ≡ c * w) (lb : length b ≡ d * w) where
    -- Row i of both together is kept in its own.
    abbrev pub apart : ℕ → Bool
    apart = by_catalogue c (kept c (beats_over worse w a)) (kept d (beats_over worse w b))

    first-kept : (i : ℕ) → i < c → kept c (beats_over worse w (a ++ b)) i ≡ kept c (beats_over worse w a) i
    unfolding beats_over
    first-kept i h =
        kept-ext c (beats_over worse w (a ++ b)) (beats_over worse w a) i
        (λ j l. rw (row_first w a b c la i h, row_first w a b c la j l))

    second-kept : (i : ℕ) → kept d (λ j i. beats_over worse w (a ++ b) (c + j) (c + i)) i ≡ kept d (beats_over worse w b) i
    unfolding beats_over
    second-kept i =
        kept-ext d (λ j i. beats_over worse w (a ++ b) (c + j) (c + i)) (beats_over worse w b) i
        (λ j l. rw (row-second w a b c la i, row-second w a b c la j))

    in-own : (i : ℕ) → i < c + d → kept_in_own (c ∷ d ∷ []) (beats_over worse w (a ++ b)) i ≡ apart i
    unfolding kept_in_own by_catalogue
    in-own i h = ⊎_elim
        (λ t. rw t (first-kept i (ltb-true i c t)))
        (λ t. rw (t, lt-ltb (i - c) d (omega (arith, h, ltb-false i c t))) (second-kept (i - c)))
        (on-or-off (ltb i c))

    -- What is kept of both together is kept in its own.
    pub apart-holds : (i : ℕ) → i < c + d → kept (c + d) (beats_over worse w (a ++ b)) i ≡ true → apart i ≡ true
    unfolding rows_of_all
    apart-holds i h k =
        let z : c + (d + 0) ≡ c + d = omega arith in
        sym (in-own i h) ∙ own-holds (c ∷ d ∷ []) (beats_over worse w (a ++ b)) i (omega (arith, h)) (rw z k)

    -- The kept rows of the two, one after the other, are what is left of both together.
    pub apart-rows : left_below w a (kept c (beats_over worse w a)) c ++ left_below w b (kept d (beats_over worse w b)) d
        ≡ left_below w (a ++ b) apart (c + d)
    unfolding by_catalogue
    apart-rows =
        rw (
          left-ext w a a (kept c (beats_over worse w a)) apart c (λ i h. refl) (λ i h. rw (lt-ltb i c h)),
          left-ext w b b (kept d (beats_over worse w b)) (λ j. apart (c + j)) d (λ i h. refl)
              (λ i h. let z : c + i - c ≡ i = omega arith in rw (le-ltb (c + i) c (omega arith), z)),
        )
        (sym (left-append w a b c la apart d))

-- ---- the order of a query

-- y is in x's set and better.
unfoldable pub worse_in : Term → ℕ → Rel Row
worse_in t group x y = equal_in group x y && better t x y

pub worse-strict : (t : Term) (group : ℕ) → Strict (better t) → Strict (worse_in t group)
unfolding worse_in
worse-strict t group s =
    record {
      irrefl = λ x h. s.irrefl x (and_r (equal_in group x x) _ h);
      trans = λ x y z h k. and_i
          (equal_in-trans group x y z (and_l _ (better t x y) h) (and_l _ (better t y z) k))
          (s.trans x y z (and_r (equal_in group x y) _ h) (and_r (equal_in group y z) _ k));
    }

-- What beats a row of a query's run is by it.
pub beats-over : (t : Term) (columns : ℕ) (rows : List ℤ) (group : ℕ)
    → beats_in t columns rows group ≡ beats_over (worse_in t group) columns rows
unfolding beats_in beats_over worse_in
beats-over t columns rows group = refl
