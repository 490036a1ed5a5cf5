-- `ranks::values::put_role` meets its contract: what the value records before i put.
use mathlib.Core.Bool.{cond}
use Rattle.model.specs.Better.{in_role}
use Rattle.laws.specs.Runs.{values_between}
use Rattle.ranks.specs.Put.{Put}
use Rattle.ranks.proofs.values.put_role.Given as goal

abbrev pub invariant-loop-i : goal.invariant-loop-i
invariant-loop-i l =
    Put (λ x r. cond (in_role l.role (values_between l.run.of.table.now l.run.k l.i) x) l.class r) l.cells l.initial.ranks l.ranks
