-- `terms::vetted::closure::reached` meets its contract. The first `b` cells stand in the row.
use mathlib.Core.Path.{◌≡◌}
use mathlib.Core.Bool.{false}
use Prim.Native.Nat.{ℕ, ◌<◌}
use lib.ListN.{length, get_or}
use Rattle.terms.specs.Closure.{reached_at}
use Rattle.terms.proofs.vetted.closure.reached.Given as goal

abbrev pub invariant-loop-b : goal.invariant-loop-b
invariant-loop-b l = (length l.to ≡ 32) × ((i : ℕ) → i < l.b → get_or l.to i false ≡ reached_at l.x l.g l.f i)
