-- The lowest kept row that is better than row i, block after block, over any relation. Assumes nothing.
use mathlib.Core.Path.{◌≡◌, sym, ◌∙◌}
use mathlib.Core.Bool.{false, false≢true}
use Prim.Native.Nat.{ℕ, ◌+◌, ◌<◌, ◌≤◌}
use native.Mathlib.Omega.{arith}
use Rattle.laws.specs.Search.{any-i, none-i, find-is}
use Rattle.laws.specs.Order.{Rel}
use Rattle.blocks.specs.Hits.{in_block}
use Rattle.laws.specs.Named.{kept_better, named}
use Rattle.parts.specs.LowestIn.{NoneIn, FirstIn}

-- No row below m is kept and better than row i.
abbrev pub NoneBelow : Rel ℕ → ℕ → ℕ → ℕ → Type 0
NoneBelow beats n i m = (a : ℕ) → a < m → a < n → kept_better beats n i a ≡ false

module _ (beats : Rel ℕ) (n i : ℕ) where
  -- A block has none.
  pub none_more : (lo : ℕ) → NoneBelow beats n i lo → NoneIn beats n i lo → NoneBelow beats n i (lo + 64)
  none_more lo before here a p h =
      in_block a lo
      (λ u. before a u h)
      (λ j u v. rw v (here.none j u (omega arith)))
      (λ u. absurd (omega arith))

  -- It has one: the lowest of all.
  pub lowest_here : (lo r : ℕ) → NoneBelow beats n i lo → FirstIn beats n i lo r → lo + r ≡ named beats n n i
  unfolding named
  lowest_here lo r before here =
      rw (any-i n (kept_better beats n i) (lo + r) here.row here.better)
      (find-is n (kept_better beats n i) (lo + r) here.row here.better lower)
    where
      lower : (a : ℕ) → a < lo + r → kept_better beats n i a ≡ false
      lower a p =
          in_block a lo
          (λ u. before a u (omega (arith, p, here.row)))
          (λ j u v. rw v (here.least j (omega arith)))
          (λ u. absurd (omega (arith, here.lane)))

  -- No block has one.
  pub lowest_none : (m : ℕ) → n ≤ m → NoneBelow beats n i m → named beats n n i ≡ 1024
  unfolding named
  lowest_none m l before =
      rw (none-i n (kept_better beats n i) (λ j h e. false≢true (sym (before j (omega arith) h) ∙ e)))
