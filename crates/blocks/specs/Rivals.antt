-- The rows of a block, the first of which is row lo, that row i meets: the others that are not gone.
use Rattle.std.specs.Prelude.{◌≡◌, Bool, false, not, ◌&&◌, List, ℕ, ◌+◌, ◌<◌, eqb}
use Rattle.lanes.specs.Lit.{free, lit}

-- The row of lane j is not gone, and is not row i.
unfoldable pub rival : List ℕ → ℕ → ℕ → ℕ → Bool
rival gone lo i j = free gone lo j && not (eqb (lo + j) i)

-- Row i's own lane is put out, and the others stay.
pub record LeftOut (lo i : ℕ) (old new : List ℕ) : Type 0 where
  pub own : (j : ℕ) → j < 64 → lo + j ≡ i → lit new j ≡ false
  pub others : (j : ℕ) → j < 64 → (lo + j ≡ i → ⊥) → lit new j ≡ lit old j
