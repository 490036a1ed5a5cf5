-- Which rows have been named for the rows that are gone, over any relation: `beats j i` reads "row j is in row i's set and
-- better".
use Rattle.std.specs.Prelude.{◌≡◌, ◌⊎◌, Bool, false, cond, ◌&&◌, List, ℕ, ◌≤◌, ◌<◌, get_or}
use Rattle.model.specs.Search.{any_below, find_below}
use Rattle.model.specs.Query.{kept}
use Rattle.laws.specs.Order.{Rel}

-- Row j is kept and better than row i.
unfoldable pub kept_better : Rel ℕ → ℕ → ℕ → ℕ → Bool
kept_better beats n i j = kept n beats j && beats j i

-- The lowest of the rows below m that is kept and better than row i, or 1024.
unfoldable pub named : Rel ℕ → ℕ → ℕ → ℕ → ℕ
named beats n m i = cond (any_below m (kept_better beats n i)) (find_below m (kept_better beats n i)) 1024

-- What is named for row i: the lowest of the rows below m, or already the lowest of all.
abbrev pub Right : Rel ℕ → ℕ → ℕ → ℕ → ℕ → Type 0
Right beats n m i v = (v ≡ named beats n m i) ⊎ ((v < 1024) × (v ≡ named beats n n i))

-- The rows below m have named the rows that they beat.
pub record Named (beats : Rel ℕ) (n m : ℕ) (by : List ℕ) : Type 0 where
  pub each : (i : ℕ) → i < n → kept n beats i ≡ false → Right beats n m i (get_or by i 0)

-- The rows below m have their name, and the others have theirs or none.
pub record NamedTo (beats : Rel ℕ) (n m : ℕ) (by : List ℕ) : Type 0 where
  pub done : (i : ℕ) → i < m → i < n → kept n beats i ≡ false → Right beats n n i (get_or by i 0)
  pub left : (i : ℕ) → m ≤ i → i < n → kept n beats i ≡ false → Right beats n 0 i (get_or by i 0)
