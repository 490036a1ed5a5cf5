-- `demands::agreement::left::gather` meets its contract: the first k rows, of which m are left.
use Rattle.demands.specs.Leaving.{marked}
use Rattle.demands.specs.Gathered.{Buffers, Gathered}
use Rattle.demands.proofs.agreement.left.gather.Given as goal

abbrev pub invariant-loop-k : goal.invariant-loop-k
invariant-loop-k l =
    Gathered l.columns l.rows (marked l.stay) l.k l.m l.left l.old × Buffers l.left l.old
