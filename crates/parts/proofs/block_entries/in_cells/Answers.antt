-- `parts::block_entries::in_cells` meets its contract.
use Rattle.plan.specs.Beneath.{parts_low}
use Rattle.parts.proofs.block_entries.in_cells.Goals as goal

pub beneath-marks-requires-clause-low : goal.beneath-marks-requires-clause-low
beneath-marks-requires-clause-low g c =
    let t = c.args.asked.now.taken in parts_low _ _ _ t.is_accepted t.below
