-- `case_lines::input::each_case` is safe and ends: each turn leaves less of the text.
use Rattle.std.specs.Prelude.{length}
use Rattle.case_lines.proofs.vetted.input.each_case.Given as goal

abbrev pub decreases-loop-text : goal.decreases-loop-text
decreases-loop-text g l = length l.text
