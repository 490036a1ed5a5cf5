-- `records::values::nearest_term` meets its contract. No record from `i` on up to `k` is a term.
use Rattle.std.proofs.Common.{◌≡◌}
use Rattle.model.specs.Record.{nearest_term}
use Rattle.records.proofs.values.nearest_term.Given as goal

abbrev pub invariant-loop-i : goal.invariant-loop-i
invariant-loop-i l = nearest_term l.table l.k ≡ nearest_term l.table l.i
