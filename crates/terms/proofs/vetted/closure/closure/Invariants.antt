-- `terms::vetted::closure::closure` meets its contract. The array is the closure of the edges before record `i`.
use Rattle.terms.specs.Closure.{Closure}
use Rattle.terms.proofs.vetted.closure.closure.Given as goal

abbrev pub invariant-loop-i : goal.invariant-loop-i
invariant-loop-i l = Closure l.table l.j l.i l.g
