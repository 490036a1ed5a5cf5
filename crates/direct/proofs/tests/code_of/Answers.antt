-- `direct::tests::code_of` meets its contract.
use mathlib.Core.Path.{sym}
use mathlib.Core.Bool.{false}
use Rattle.laws.specs.Taken.{term-gives}
use Rattle.plan.specs.Beneath.{parts_low}
use Rattle.direct.proofs.tests.code_of.Goals as goal

pub invariant_of-asked : goal.invariant_of-asked
invariant_of-asked c =
    record { taken = (term-gives c.args.table.now 1 false 5 (sym c.in_ok-term_verdict.ensures)).0 }

pub beneath-marks-requires-clause-low : goal.beneath-marks-requires-clause-low
beneath-marks-requires-clause-low c =
    let t = (term-gives c.args.table.now 1 false 5 (sym c.in_ok-term_verdict.ensures)).0 in
    parts_low _ _ _ t.is_accepted t.below
