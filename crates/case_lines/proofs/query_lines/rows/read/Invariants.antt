-- `case_lines::query_lines::rows::read` is safe: it has no more numbers than fit.
use Rattle.std.specs.Prelude.{◌≤◌, length}
use Rattle.case_lines.proofs.query_lines.rows.read.Given as goal

abbrev pub invariant-loop-from : goal.invariant-loop-from
invariant-loop-from l = l.n ≤ length l.numbers
