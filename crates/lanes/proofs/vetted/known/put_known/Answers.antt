use Rattle.std.proofs.Common.{arith, rules}
use Rattle.plan.specs.Told.{bits}
use Rattle.lanes.specs.KnownLanes.{bits_lane}
use Rattle.lanes.proofs.Stretch.{wrote-part}
use Rattle.lanes.proofs.vetted.known.put_known.Goals as goal

pub returns : goal.returns
unfolding bits_lane bits
returns c = wrote-part _ _ _ _ _ _ _ (omega arith) (omega arith) c.put.auto.out (λ j l o. let h = c.put.ensures j 0 l in search rules)
