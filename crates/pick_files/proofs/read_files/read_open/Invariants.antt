-- `pick_files::read_files::read_open` meets its contract: each turn reads on in the buffer.
use Rattle.std.specs.Prelude.{◌-◌, ◌≤◌, length}
use Rattle.pick_files.proofs.read_files.read_open.Given as goal

abbrev pub invariant-loop-n : goal.invariant-loop-n
invariant-loop-n g l = l.n ≤ length l.buf

abbrev pub decreases-loop-n : goal.decreases-loop-n
decreases-loop-n g l = length l.buf - l.n
