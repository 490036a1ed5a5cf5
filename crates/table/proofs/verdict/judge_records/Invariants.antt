-- `table::verdict::judge_records` meets its contract. Every record below `k` passed, and
-- what is carried is that up to it.
use mathlib.Core.Path.{◌≡◌}
use lib.ListN.{length}
use Rattle.std.specs.Prelude.{Ok}
use Rattle.model.specs.Check.{each_below, judge}
use Rattle.table.specs.Carried.{Carried}
use Rattle.table.proofs.verdict.judge_records.Given as goal

abbrev pub invariant-loop-k : goal.invariant-loop-k
invariant-loop-k l =
    (length l.terms ≡ 256) × (length l.used ≡ 256) × (each_below l.k (judge l.table l.columns) ≡ Ok tt)
    × Carried l.table l.k l.near l.terms l.used
