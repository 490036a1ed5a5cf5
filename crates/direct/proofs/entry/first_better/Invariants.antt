-- `direct::entry::first_better` meets its contract.
use Rattle.pairs.specs.Better.{better}
use Rattle.direct.proofs.Sought.{Sought}
use Rattle.direct.proofs.entry.first_better.Given as goal

abbrev pub invariant-loop-j : goal.invariant-loop-j
invariant-loop-j l = Sought (better l.pairs) l.pairs.rows.n l.i l.j-index
