-- `terms::vetted::closure::ends` meets its contract. The first `a` ends stand in the array.
use mathlib.Core.Path.{◌≡◌}
use Prim.Native.Nat.{ℕ, ◌<◌}
use lib.ListN.{length, get_or}
use Rattle.terms.specs.Closure.{end_word}
use Rattle.terms.proofs.vetted.closure.ends.Given as goal

abbrev pub invariant-loop-a : goal.invariant-loop-a
invariant-loop-a l = (length l.x ≡ 32) × ((b : ℕ) → b < l.a → get_or l.x b 0 ≡ end_word l.table l.j b)
