-- `terms::vetted::prepared::numbers` meets its contract. The first `i` numbers stand in the array.
use mathlib.Core.Path.{◌≡◌}
use Prim.Native.Nat.{ℕ, ◌≤◌, ◌<◌}
use lib.IntN.{pos}
use lib.ListN.{length, get_or}
use Rattle.terms.specs.Prepared.{number_at}
use Rattle.terms.proofs.vetted.prepared.numbers.Given as goal

abbrev pub invariant-loop-i : goal.invariant-loop-i
invariant-loop-i l =
    (length l.a ≡ 256) × ((j : ℕ) → j < l.i → get_or l.a j (pos 0) ≡ number_at l.table j)
    × ((j : ℕ) → l.i ≤ j → j < 256 → get_or l.a j (pos 0) ≡ pos 0)
