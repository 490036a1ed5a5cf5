-- `parts::kept::Kept::few_wait` stays in its numbers: no more rows are counted than are seen.
use Rattle.std.proofs.Common.{◌≤◌}
use Rattle.parts.proofs.kept.Kept.few_wait.Given as goal

abbrev pub invariant-loop-j : goal.invariant-loop-j
invariant-loop-j l = (l.wait ≤ l.j) × (l.kept ≤ l.j)
