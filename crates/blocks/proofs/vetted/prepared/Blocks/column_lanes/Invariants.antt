-- `blocks::vetted::prepared::Blocks::column_lanes` meets its contract: the columns below c.
use mathlib.Core.Path.{◌≡◌}
use lib.ListN.{length}
use Rattle.blocks.specs.Alive.{Grouped}
use Rattle.blocks.proofs.vetted.prepared.Blocks.column_lanes.Given as goal

abbrev pub invariant-loop-c : goal.invariant-loop-c
invariant-loop-c l =
    let s = l.self in
    (length l.live ≡ length l.initial.live)
    × Grouped s.group s.rows.columns s.rows.cells.now s.rows.n l.i l.b l.c l.initial.live l.live
