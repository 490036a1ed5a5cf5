-- `ranks::distance::mirror_rank` meets its contract.
use Rattle.ranks.proofs.Ranks.{mirrored}
use Rattle.ranks.proofs.distance.mirror_rank.Goals as goal

pub returns : goal.returns
returns c = mirrored c.ranges.x
