-- `rows::vetted::groups::in_group` meets its contract: the rows differ in no column below c.
use mathlib.Core.Path.{◌≡◌}
use mathlib.Core.Bool.{false}
use Prim.Native.Nat.{◌/◌, ◌^◌, ◌≤◌, ◌<◌}
use Rattle.model.specs.Search.{any_below}
use Rattle.rows.specs.Group.{differs}
use Rattle.rows.proofs.vetted.groups.in_group.Given as goal

abbrev pub invariant-loop-left : goal.invariant-loop-left
invariant-loop-left l =
    (l.c ≤ l.n) × (l.left < 256) × (l.left ≡ l.group / 2 ^ l.c) × (any_below l.c (differs l.group l.x l.y) ≡ false)

abbrev pub decreases-loop-left : goal.decreases-loop-left
decreases-loop-left l = l.left
