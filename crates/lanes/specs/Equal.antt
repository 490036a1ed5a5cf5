-- What each loop over 64 lanes writes in lane j.
use Rattle.std.specs.Prelude.{◌&&◌, List, ℕ, ◌+◌, eqb, ℤ, pos, get_or}
use mir.Val.{bool_byte}
use Rattle.model.specs.Bytes.{eq_z}
use Rattle.lanes.specs.Lit.{lit}

-- Lit where it was and the key is the one given.
unfoldable pub key_lane : List ℕ → ℕ → List ℕ → ℕ → ℕ → ℕ
key_lane live key keys at j = bool_byte (lit live j && eqb key (get_or keys (at + j) 0))

unfoldable pub equal_lane : List ℕ → ℤ → List ℤ → ℕ → ℕ → ℕ
equal_lane live v values at j = bool_byte (lit live j && eq_z v (get_or values (at + j) (pos 0)))
