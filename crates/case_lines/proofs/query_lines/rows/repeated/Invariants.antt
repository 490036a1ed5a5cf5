-- `case_lines::query_lines::rows::repeated` is safe: it has no more numbers than fit.
use Rattle.std.specs.Prelude.{◌≤◌, length}
use Rattle.case_lines.proofs.query_lines.rows.repeated.Given as goal

abbrev pub invariant-loop-time : goal.invariant-loop-time
invariant-loop-time l = l.n ≤ length l.numbers
