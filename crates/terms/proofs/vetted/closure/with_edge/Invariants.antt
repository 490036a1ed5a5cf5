-- `terms::vetted::closure::with_edge` meets its contract. The first `a` rows stand in the array.
use mathlib.Core.Path.{◌≡◌}
use mathlib.Core.Bool.{false}
use mathlib.Core.List.{[]}
use Prim.Native.Nat.{ℕ, ◌<◌}
use lib.ListN.{length, get_or}
use Rattle.terms.specs.Closure.{cell_with}
use Rattle.terms.proofs.vetted.closure.with_edge.Given as goal

abbrev pub invariant-loop-a : goal.invariant-loop-a
invariant-loop-a l =
    (length l.h ≡ 32) × ((i : ℕ) → i < l.a → (b : ℕ) → b < 32 → get_or (get_or l.h i []) b false ≡ cell_with l.x l.g l.e i b)
