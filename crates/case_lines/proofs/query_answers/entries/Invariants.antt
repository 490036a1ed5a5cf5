-- `case_lines::query_answers::entries` is safe and ends: each turn leaves fewer entries.
use Rattle.std.specs.Prelude.{length}
use Rattle.case_lines.proofs.query_answers.entries.Given as goal

abbrev pub decreases-loop-rest : goal.decreases-loop-rest
decreases-loop-rest g l = length l.rest
