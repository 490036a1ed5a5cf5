-- `demands::agreement::stays::mark_spared` meets its contract: the first i marks.
use mathlib.Core.Path.{◌≡◌}
use mathlib.Core.Bool.{false}
use lib.ListN.{length}
use Rattle.laws.specs.Wrote.{Wrote}
use Rattle.demands.specs.Leaving.{holds_own, spared}
use Rattle.demands.proofs.agreement.stays.mark_spared.Given as goal

abbrev pub invariant-loop-i : goal.invariant-loop-i
invariant-loop-i l =
    (length l.stay ≡ 1024) × Wrote false (spared (holds_own l.entries) l.out) 0 l.i l.initial.stay l.stay
