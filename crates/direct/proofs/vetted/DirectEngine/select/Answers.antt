-- `direct::vetted::DirectEngine::select` meets its contract.
use Rattle.plan.specs.Beneath.{parts_low}
use Rattle.direct.proofs.vetted.DirectEngine.select.Goals as goal

pub beneath-marks-requires-clause-low : goal.beneath-marks-requires-clause-low
beneath-marks-requires-clause-low c =
    let t = c.args.asked.now.taken in
    parts_low _ _ _ t.is_accepted t.below
