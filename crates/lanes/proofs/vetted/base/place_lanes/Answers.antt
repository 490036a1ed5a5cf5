use Rattle.std.proofs.Common.{arith, rules}
use Rattle.model.specs.Bytes.{eq_z}
use Rattle.lanes.specs.Lanes.{place_lane}
use Rattle.lanes.proofs.Stretch.{wrote-part}
use Rattle.lanes.proofs.vetted.base.place_lanes.Goals as goal

pub returns : goal.returns
unfolding place_lane eq_z
returns c = wrote-part _ _ _ _ _ _ _ (omega arith) (omega arith) c.put.auto.out (λ j l o. let h = c.put.ensures j 0 l in search rules)
