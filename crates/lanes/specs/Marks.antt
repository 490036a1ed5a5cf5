-- What each loop over 64 lanes writes in lane j of a row that it marks: that the row is gone, or which row is named for it.
use Rattle.std.specs.Prelude.{cond, not, ◌||◌, List, ℕ, ◌+◌, eqb, get_or}
use mir.Val.{bool_byte}
use Rattle.lanes.specs.Lit.{hit}

unfoldable pub gone_lane : List ℕ → ℕ → List ℕ → List ℕ → ℕ → ℕ → ℕ
gone_lane gone at live codes top j = bool_byte (not (eqb (get_or gone (at + j) 0) 0) || hit live codes top 1 j)

unfoldable pub name_lane : List ℕ → ℕ → List ℕ → List ℕ → ℕ → ℕ → ℕ → ℕ
name_lane by at live codes top i j = cond (hit live codes top 1 j) i (get_or by (at + j) 0)
