-- The code of a base record that each loop writes in lane j. The row has rank x and value v, lane j's stand at `at + j` and
-- `from + j`.
use Rattle.std.specs.Prelude.{cond, List, ℕ, ◌+◌, ltb, ℤ, pos, negsuc, get_or}
use Rattle.std.specs.Int.Signed.{lt_z}
use Rattle.model.specs.Bytes.{eq_z}
use Rattle.laws.specs.ValueCodes.{tests_code}

-- By rank: the lower is better, and equal ranks are the same.
unfoldable pub order_code : ℤ → ℤ → ℕ
order_code x y = tests_code (eq_z x y) (lt_z x y) (lt_z y x)

unfoldable pub order_lane : ℤ → List ℤ → ℕ → ℕ → ℕ
order_lane x ranks at j = order_code x (get_or ranks (at + j) (pos 0))

-- By rank, the same where the values are.
unfoldable pub ranked_lane : ℤ → List ℤ → ℕ → ℤ → List ℤ → ℕ → ℕ → ℕ
ranked_lane x ranks at v values from j =
    tests_code (eq_z v (get_or values (from + j) (pos 0)))
    (lt_z x (get_or ranks (at + j) (pos 0))) (lt_z (get_or ranks (at + j) (pos 0)) x)

-- The entry for a place; unranked for a number that is none of the 33.
unfoldable pub place_code : List ℕ → ℤ → ℕ
place_code to (pos p) = cond (ltb p 33) (get_or to p 0) 3
place_code to (negsuc p) = 3

unfoldable pub place_lane : List ℕ → List ℤ → ℕ → ℤ → List ℤ → ℕ → ℕ → ℕ
place_lane to ranks at v values from j =
    cond (eq_z v (get_or values (from + j) (pos 0))) 0 (place_code to (get_or ranks (at + j) (pos 0)))
