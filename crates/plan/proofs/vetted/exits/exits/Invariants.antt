-- `plan::vetted::exits::exits` meets its contract.
use Rattle.plan.specs.Exits.{Exits}
use Rattle.plan.proofs.vetted.exits.exits.Given as goal

abbrev pub invariant-loop-k : goal.invariant-loop-k
invariant-loop-k l = Exits l.of.table.now l.term l.exits
