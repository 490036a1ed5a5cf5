use Rattle.std.proofs.Common.{arith, rules}
use Rattle.lanes.specs.Lit.{lit, hit}
use Rattle.lanes.specs.Marks.{gone_lane}
use Rattle.lanes.proofs.Stretch.{wrote-part}
use Rattle.lanes.proofs.vetted.marks.gone_lanes.Goals as goal

pub returns : goal.returns
unfolding gone_lane hit lit
returns c = wrote-part _ _ _ _ _ _ _ (omega arith) (omega arith) c.put.auto.out (λ j l o. let h = c.put.ensures j 0 l in search (rules, o))
