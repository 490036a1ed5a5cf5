-- `rows::vetted::keys::fill_keys` meets its contract: the rows below i have the keys of their cells in column c.
use mathlib.Core.Path.{◌≡◌}
use Prim.Native.Nat.{ℕ, ◌<◌}
use lib.ListN.{get_or}
use Rattle.model.specs.Better.{cell}
use Rattle.model.specs.Query.{row_at}
use Rattle.rows.specs.Keys.{key_of}
use Rattle.rows.proofs.vetted.keys.fill_keys.Given as goal

abbrev pub invariant-loop-i : goal.invariant-loop-i
invariant-loop-i l =
    (h : ℕ) → h < l.i → get_or l.keys h 0 ≡ key_of (cell (row_at l.columns l.cells h) l.c)
