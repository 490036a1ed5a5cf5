-- The entry of a row, from what the rounds and the naming left.
use Rattle.std.specs.Prelude.{cond, List, ℕ, eqb, ltb, get_or}

-- Row i's entry: its own number where it is not gone, else the row that is named for it.
unfoldable pub entry_of : List ℕ → List ℕ → ℕ → ℕ
entry_of gone by i = cond (eqb (get_or gone i 0) 0) i (get_or by i 0)

-- The name of row j that is known before a row names: a lower row in whose round it was dropped, if that one is kept.
unfoldable pub name_of : List ℕ → ℕ → ℕ → ℕ
name_of gone j first = cond (ltb first j) (cond (eqb (get_or gone first 0) 0) first 1024) 1024

unfoldable pub first_name : List ℕ → List ℕ → ℕ → ℕ
first_name gone first j = name_of gone j (get_or first j 0)
