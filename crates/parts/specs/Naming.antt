-- Which rows have been named while a kept row names, over any relation: `beats j i` reads "row j is in row i's set and better".
use Rattle.std.specs.Prelude.{◌≡◌, false, List, ℕ, ◌+◌, ◌≤◌, ◌<◌, get_or}
use Rattle.model.specs.Query.{kept}
use Rattle.laws.specs.Order.{Rel}
use Rattle.laws.specs.Named.{Right}

-- The rows below m have named the rows that they beat, and row m has named those of the rows below x that it beats.
pub record Naming (beats : Rel ℕ) (n m x : ℕ) (by : List ℕ) : Type 0 where
  pub done : (i : ℕ) → i < x → i < n → kept n beats i ≡ false → Right beats n (m + 1) i (get_or by i 0)
  pub left : (i : ℕ) → x ≤ i → i < n → kept n beats i ≡ false → Right beats n m i (get_or by i 0)
