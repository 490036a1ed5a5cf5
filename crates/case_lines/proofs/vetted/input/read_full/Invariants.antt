-- `case_lines::input::read_full` meets its contract: each turn reads on in the buffer.
use Rattle.std.specs.Prelude.{◌-◌, ◌≤◌, length}
use Rattle.case_lines.proofs.vetted.input.read_full.Given as goal

abbrev pub invariant-loop-n : goal.invariant-loop-n
invariant-loop-n g l = l.n ≤ length l.buf

abbrev pub decreases-loop-n : goal.decreases-loop-n
decreases-loop-n g l = length l.buf - l.n
