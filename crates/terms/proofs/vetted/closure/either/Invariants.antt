-- `terms::vetted::closure::either` meets its contract. The first `b` cells stand in the row.
use mathlib.Core.Path.{◌≡◌}
use mathlib.Core.Bool.{false, ◌||◌}
use Prim.Native.Nat.{ℕ, ◌<◌}
use lib.ListN.{length, get_or}
use Rattle.terms.proofs.vetted.closure.either.Given as goal

abbrev pub invariant-loop-b : goal.invariant-loop-b
invariant-loop-b l = (length l.row ≡ 32) × ((i : ℕ) → i < l.b → get_or l.row i false ≡ (get_or l.p i false || get_or l.q i false))
