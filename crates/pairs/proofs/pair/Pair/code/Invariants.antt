-- `pairs::pair::Pair::code` meets its contract: the marked term records below `k` hold their codes, and what the
-- records below `k` tell is known.
use mathlib.Core.Path.{◌≡◌}
use mathlib.Core.Bool.{true}
use Prim.Native.Nat.{◌+◌, ◌-◌, ◌≤◌, ◌<◌}
use Rattle.model.specs.Record.{record_at, is_term}
use Rattle.plan.specs.Known.{Known}
use Rattle.pairs.specs.Pairs.{CodesBelow}
use Rattle.pairs.proofs.pair.Pair.code.Given as goal

abbrev pub invariant-loop-k : goal.invariant-loop-k
invariant-loop-k l =
    (l.k ≤ l.of.term → is_term (record_at l.of.table.now l.k) ≡ true)
    × CodesBelow l.of.table.now l.of.marks.now l.self.first.now l.self.second.now l.k l.codes
    × Known l.of.table.now l.of.term l.of.exits.now l.self.first.now l.self.second.now l.k l.known × (l.known < 3)

abbrev pub decreases-loop-k : goal.decreases-loop-k
decreases-loop-k l = l.of.term + 1 - l.k
