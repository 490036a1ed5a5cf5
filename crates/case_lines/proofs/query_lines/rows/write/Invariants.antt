-- `case_lines::query_lines::rows::write` is safe: it reads cells below 2051.
use Rattle.std.specs.Prelude.{◌<◌}
use Rattle.case_lines.proofs.query_lines.rows.write.Given as goal

abbrev pub invariant-loop-k : goal.invariant-loop-k
invariant-loop-k l = l.i < 2051
