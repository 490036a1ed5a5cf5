-- `terms::distances::distance` meets its contract.
use Rattle.std.proofs.Common.{arith}
use Rattle.std.proofs.lemmas.Int.{ints}
use Rattle.model.specs.Better.{distance}
use Rattle.terms.proofs.distances.distance.Goals as goal

pub returns : goal.returns
unfolding distance
returns c = omega (arith, ints, c.abs.ensures.value, c.from-v.ensures, c.from-w.ensures, c.ranges.x, c.ranges.wish)
