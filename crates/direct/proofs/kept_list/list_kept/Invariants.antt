-- `direct::kept_list::list_kept` meets its contract.
use mathlib.Core.Path.{◌≡◌}
use Prim.Native.Nat.{◌≤◌}
use lib.Dec.{eqb}
use lib.ListN.{length, get_or}
use Rattle.model.specs.Search.{count_below}
use Rattle.direct.specs.Kept.{Listed}
use Rattle.direct.proofs.kept_list.list_kept.Given as goal

abbrev pub invariant-loop-i : goal.invariant-loop-i
invariant-loop-i l =
    (length l.kept ≡ length l.initial.kept) × (l.m ≡ count_below l.i (λ j. eqb (get_or l.gone j 0) 0)) × (l.m ≤ l.i)
    × Listed (λ j. eqb (get_or l.gone j 0) 0) l.i l.kept
