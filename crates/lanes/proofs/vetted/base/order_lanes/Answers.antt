use Rattle.std.proofs.Common.{arith, rules}
use Rattle.lanes.specs.Lanes.{order_lane}
use Rattle.lanes.proofs.Stretch.{wrote-part}
use Rattle.lanes.proofs.vetted.base.order_lanes.Goals as goal

pub returns : goal.returns
unfolding order_lane
returns c = wrote-part _ _ _ _ _ _ _ (omega arith) (omega arith) c.put.auto.out (λ j l o. let h = c.put.ensures j 0 l in search rules)
