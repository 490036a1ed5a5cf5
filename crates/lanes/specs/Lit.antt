-- Which lanes of a block are lit, and what each loop over 64 lanes writes in lane j.
use Rattle.std.specs.Prelude.{Bool, not, ◌&&◌, List, ℕ, ◌+◌, eqb, get_or}
use mir.Val.{bool_byte}

-- The row of lane j is not gone.
unfoldable pub free : List ℕ → ℕ → ℕ → Bool
free gone at j = eqb (get_or gone (at + j) 0) 0

unfoldable pub free_lane : List ℕ → ℕ → ℕ → ℕ
free_lane gone at j = bool_byte (free gone at j)

-- It is gone, and no row is named for it.
unfoldable pub pending : List ℕ → List ℕ → ℕ → ℕ → Bool
pending gone by at j = not (eqb (get_or gone (at + j) 0) 0) && eqb (get_or by (at + j) 0) 1024

unfoldable pub pending_lane : List ℕ → List ℕ → ℕ → ℕ → ℕ
pending_lane gone by at j = bool_byte (pending gone by at j)

-- Lane j is lit.
unfoldable pub lit : List ℕ → ℕ → Bool
lit live j = eqb (get_or live j 0) 1

-- Lane j is lit, and its code is c.
unfoldable pub hit : List ℕ → List ℕ → ℕ → ℕ → ℕ → Bool
hit live codes top c j = lit live j && eqb (get_or codes (top + j) 0) c
