-- `direct::rounds::round` meets its contract.
use mathlib.Core.Path.{◌≡◌}
use lib.ListN.{length}
use Rattle.laws.specs.Elimination.{Turn, Beaten}
use Rattle.pairs.specs.Better.{better}
use Rattle.direct.proofs.rounds.round.Given as goal

abbrev pub invariant-loop-j : goal.invariant-loop-j
invariant-loop-j l =
    (length l.gone ≡ length l.initial.gone) × (length l.by ≡ length l.initial.by)
    × Turn (better l.pairs) l.pairs.rows.n l.i l.j l.gone × Beaten (better l.pairs) l.pairs.rows.n l.gone l.by
