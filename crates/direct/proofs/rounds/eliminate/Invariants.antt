-- `direct::rounds::eliminate` meets its contract.
use mathlib.Core.Path.{◌≡◌}
use lib.ListN.{length}
use Rattle.laws.specs.Elimination.{Rounds, Beaten}
use Rattle.pairs.specs.Better.{better}
use Rattle.direct.proofs.rounds.eliminate.Given as goal

abbrev pub invariant-loop-i : goal.invariant-loop-i
invariant-loop-i l =
    (length l.gone ≡ length l.initial.gone) × (length l.by ≡ length l.initial.by)
    × Rounds (better l.pairs) l.pairs.rows.n l.i l.gone × Beaten (better l.pairs) l.pairs.rows.n l.gone l.by
