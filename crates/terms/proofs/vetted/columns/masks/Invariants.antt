-- `terms::vetted::columns::masks` meets its contract. The array holds the masks of the records below `i`.
use mathlib.Core.Path.{◌≡◌}
use Prim.Native.Nat.{ℕ, ◌<◌}
use lib.ListN.{length, get_or}
use Rattle.terms.specs.Columns.{mask_below}
use Rattle.terms.proofs.vetted.columns.masks.Given as goal

abbrev pub invariant-loop-i : goal.invariant-loop-i
invariant-loop-i l = (length l.a ≡ 256) × ((k : ℕ) → k < 256 → get_or l.a k 0 ≡ mask_below l.table l.i k)
