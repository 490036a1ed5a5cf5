-- The list of the kept rows, and the entries that are looked up in it.
use Rattle.std.specs.Prelude.{◌≡◌, Bool, true, ◌&&◌, List, ℕ, ◌<◌, get_or, length}
use Rattle.model.specs.Search.{find_below, count_below}
use Rattle.model.specs.Query.{kept, kept_count}
use Rattle.laws.specs.Order.{Rel}
use Rattle.laws.specs.Elimination.{Settled}

-- The rows below i that pass stand in the list, in order.
pub record Listed (pass : ℕ → Bool) (i : ℕ) (list : List ℕ) : Type 0 where
  pub place : (k : ℕ) → k < i → pass k ≡ true → get_or list (count_below k pass) 0 ≡ k

-- The list is that of the kept rows, in order, and a row is not gone exactly where it is kept.
pub record KeptRows (beats : Rel ℕ) (n : ℕ) (gone list : List ℕ) : Type 0 where
  pub settled : Settled beats n gone
  pub count : length list ≡ kept_count n beats
  pub listed : Listed (kept n beats) n list

-- The lowest kept row that is better than row i; n where there is none.
unfoldable pub lowest_kept : ℕ → Rel ℕ → ℕ → ℕ
lowest_kept n beats i = find_below n (λ j. kept n beats j && beats j i)
