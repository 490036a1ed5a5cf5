use Rattle.std.proofs.Common.{arith, rules, length-take-le}
use Rattle.lanes.specs.Lit.{free, free_lane}
use Rattle.lanes.proofs.Stretch.{wrote-front}
use Rattle.lanes.proofs.vetted.lit.free_lanes.Goals as goal

pub put-requires : goal.put-requires
put-requires c = let room = c.requires.live in rw length-take-le (search rules)

pub returns : goal.returns
unfolding free_lane free
returns c = wrote-front _ _ _ _ _ (omega arith) c.put.auto.out (λ j l o. let h = c.put.ensures j 0 l in search rules)
