-- `ranks::values::places` meets its contract: the first p places.
use Rattle.ranks.specs.Put.{Put, last_place}
use Rattle.ranks.proofs.values.places.Given as goal

abbrev pub invariant-loop-p : goal.invariant-loop-p
invariant-loop-p l = Put (λ x r. last_place l.run.of.table.now l.first r l.p x) l.cells l.initial.ranks l.ranks
