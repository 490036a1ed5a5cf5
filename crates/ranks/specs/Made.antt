-- Entries that are put one after the other: the m from `at` on, each from the cell beside it and from what it was. `put_lane f`
-- makes entry j by f. Assumes nothing.
use Rattle.std.specs.Prelude.{◌≡◌, Bool, true, false, cond, ◌||◌, List, ℕ, ◌+◌, ℤ, pos, get_or}
use Rattle.std.proofs.Math.Path.{refl, sym}
use Rattle.std.proofs.Common.{◌∙◌}
use Rattle.laws.specs.Wrote.{Wrote}
use Rattle.ranks.specs.Put.{put_lane}

-- A number that is put if one of two tests holds.
pub either : (a b : Bool) (y z : ℤ) → cond a y (cond b y z) ≡ cond (a || b) y z
either true b y z = refl
either false b y z = refl

module _ (cells : List ℤ) (at m : ℕ) where
  -- Nothing is put.
  pub put-none : (f : ℤ → ℤ → ℤ) (old : List ℤ) → ((x r : ℤ) → f x r ≡ r) → Wrote (pos 0) (put_lane f cells old at) at m old old
  unfolding put_lane
  put-none f old h =
      record { made = λ j l. sym (h (get_or cells j (pos 0)) (get_or old (at + j) (pos 0))); below = λ x l. refl; above = λ x l. refl }

  -- What agrees puts the same.
  pub put_same : (f g : ℤ → ℤ → ℤ) (old new : List ℤ) → ((x r : ℤ) → g x r ≡ f x r)
      → Wrote (pos 0) (put_lane f cells old at) at m old new → Wrote (pos 0) (put_lane g cells old at) at m old new
  unfolding put_lane
  put_same f g old new h w =
      record {
        made = λ j l. w.made j l ∙ sym (h (get_or cells j (pos 0)) (get_or old (at + j) (pos 0)));
        below = w.below;
        above = w.above;
      }

  -- One number in all entries is made from any cell.
  pub put_all : (y : ℤ) (f : ℤ → ℤ → ℤ) (old new : List ℤ) → ((x r : ℤ) → f x r ≡ y) → Wrote (pos 0) (λ j. y) at m old new
      → Wrote (pos 0) (put_lane f cells old at) at m old new
  unfolding put_lane
  put_all y f old new h w =
      record {
        made = λ j l. w.made j l ∙ sym (h (get_or cells j (pos 0)) (get_or old (at + j) (pos 0)));
        below = w.below;
        above = w.above;
      }

  -- Over entries that are made from the cells, and from what they were.
  pub put-over : (f g all : ℤ → ℤ → ℤ) (old mid new : List ℤ) → ((x r : ℤ) → all x r ≡ g x (f x r))
      → Wrote (pos 0) (put_lane f cells old at) at m old mid → Wrote (pos 0) (put_lane g cells mid at) at m mid new
      → Wrote (pos 0) (put_lane all cells old at) at m old new
  unfolding put_lane
  put-over f g all old mid new h s t =
      record {
        made = λ j l.
            t.made j l ∙ rw (s.made j l) (sym (h (get_or cells j (pos 0)) (get_or old (at + j) (pos 0))));
        below = λ x l. t.below x l ∙ s.below x l;
        above = λ x l. t.above x l ∙ s.above x l;
      }

  -- The cells that pass a test, and then those that pass another.
  pub put-more : (y : ℤ) (some more all : ℤ → Bool) (old mid new : List ℤ) → ((x : ℤ) → all x ≡ (more x || some x))
      → Wrote (pos 0) (put_lane (λ x r. cond (some x) y r) cells old at) at m old mid
      → Wrote (pos 0) (put_lane (λ x r. cond (more x) y r) cells mid at) at m mid new
      → Wrote (pos 0) (put_lane (λ x r. cond (all x) y r) cells old at) at m old new
  put-more y some more all old mid new h =
      put-over (λ x r. cond (some x) y r) (λ x r. cond (more x) y r) (λ x r. cond (all x) y r) old mid new
      (λ x r. rw (h x) (sym (either (more x) (some x) y r)))
