-- The lowest kept row of a block that is better than row i, over any relation. Assumes nothing.
use mathlib.Core.Path.{◌≡◌, sym, ◌∙◌}
use mathlib.Core.Logic.{⊎_elim}
use mathlib.Core.Bool.{true, false, false≢true}
use mathlib.Core.List.{List}
use Prim.Native.Nat.{ℕ, ◌+◌, ◌<◌}
use native.Mathlib.Omega.{arith}
use Rattle.std.specs.Prelude.{Option, Some, None}
use Rattle.std.specs.Option.{MatchOption}
use Rattle.model.specs.Query.{kept}
use Rattle.laws.specs.Bools.{on-or-off}
use Rattle.laws.specs.Order.{Rel}
use Rattle.laws.specs.Cases.{below_or_not}
use Rattle.laws.specs.Elimination.{Settled}
use Rattle.lanes.specs.Lit.{free, hit}
use Rattle.blocks.specs.Hits.{Hits, Dark}
use Rattle.laws.specs.Named.{kept_better}
use Rattle.parts.specs.LowestIn.{FirstHit, NoneIn, FirstIn, LowestIn}

-- ---- one block, the first row of which is row lo

module _ (beats : Rel ℕ) (n i lo : ℕ) (gone : List ℕ) (settled : Settled beats n gone) where
  -- A row that is not gone is kept.
  free-kept : (j : ℕ) → lo + j < n → free gone lo j ≡ kept n beats (lo + j)
  unfolding free
  free-kept j l = settled.each (lo + j) l

  -- No lane is lit.
  pub dark-none : Dark beats n i lo (free gone lo) → NoneIn beats n i lo
  unfolding kept_better
  dark-none dark =
      record {
        none = λ j l h. ⊎_elim
            (λ (k : kept n beats (lo + j) ≡ true). rw (k, (dark.apart j l h (free-kept j h ∙ k)).1))
            (λ (k : kept n beats (lo + j) ≡ false). rw k)
            (on-or-off (kept n beats (lo + j)));
      }

  -- Of the lit lanes, those with code 2 are such rows.
  module _ (live codes : List ℕ) (top : ℕ) (hits : Hits beats n i lo (free gone lo) live codes top) where
    hit-better : (j : ℕ) → j < 64 → lo + j < n → hit live codes top 2 j ≡ kept_better beats n i (lo + j)
    unfolding kept_better
    hit-better j l h = hits.two j l h ∙ rw (free-kept j h)

    hit-row : (j : ℕ) → j < 64 → hit live codes top 2 j ≡ true → lo + j < n
    hit-row j l e =
        ⊎_elim (λ h. h) (λ h. absurd (false≢true (sym (hits.off 2 j l h) ∙ e))) (below_or_not (lo + j) n)

    -- None has it,
    pub hits-none : ((j : ℕ) → j < 64 → hit live codes top 2 j ≡ false) → NoneIn beats n i lo
    hits-none none = record { none = λ j l h. sym (hit-better j l h) ∙ none j l }

    -- or the lowest is found.
    pub hits-first : (r : ℕ) → FirstHit live codes top r → FirstIn beats n i lo r
    hits-first r f =
        let row = hit-row r f.lane f.hits in
        record {
          lane = f.lane;
          row = row;
          better = sym (hit-better r f.lane row) ∙ f.hits;
          least = λ j l. sym (hit-better j (omega (arith, l, f.lane)) (omega (arith, l, row))) ∙ f.least j l;
        }

    pub hits-lowest : (found : Option ℕ)
        → MatchOption found ((j : ℕ) → j < 64 → hit live codes top 2 j ≡ false) (FirstHit live codes top)
        → LowestIn beats n i lo found
    hits-lowest None none = hits-none none
    hits-lowest (Some r) f = hits-first r f
