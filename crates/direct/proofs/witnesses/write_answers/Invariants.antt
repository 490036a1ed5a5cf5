-- `direct::witnesses::write_answers` meets its contract.
use mathlib.Core.Path.{◌≡◌}
use lib.ListN.{length}
use Rattle.model.specs.Search.{fill}
use Rattle.model.specs.Query.{answer}
use Rattle.pairs.specs.Better.{better}
use Rattle.direct.proofs.witnesses.write_answers.Given as goal

abbrev pub invariant-loop-row : goal.invariant-loop-row
invariant-loop-row l =
    (length l.answers ≡ length l.initial.answers)
    × (l.answers ≡ fill l.row (answer l.pairs.rows.n (better l.pairs)) l.initial.answers)
