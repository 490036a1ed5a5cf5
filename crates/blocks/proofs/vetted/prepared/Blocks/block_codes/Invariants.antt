-- `blocks::vetted::prepared::Blocks::block_codes` meets its contract: the buffer holds the codes of the records below `k`, and
-- what they tell is known.
use mathlib.Core.Path.{◌≡◌}
use mathlib.Core.Bool.{true}
use Prim.Native.Nat.{◌+◌, ◌-◌, ◌≤◌}
use Rattle.model.specs.Record.{record_at, is_term}
use Rattle.blocks.specs.Ready.{Coded}
use Rattle.blocks.specs.Blocks.{KnownLanes}
use Rattle.blocks.proofs.vetted.prepared.Blocks.block_codes.Given as goal

abbrev pub invariant-loop-k : goal.invariant-loop-k
invariant-loop-k l =
    let s = l.self in
    (l.k ≤ s.term → is_term (record_at s.of.table.now l.k) ≡ true)
    × Coded s.of.table.now s.marks.now s.rows.columns s.rows.cells.now s.rows.n l.i l.b l.k l.codes
    × KnownLanes s.of.table.now s.term s.exits.now s.rows.columns s.rows.cells.now s.rows.n l.i l.b l.k l.live l.known

abbrev pub decreases-loop-k : goal.decreases-loop-k
decreases-loop-k l = l.self.term + 1 - l.k
