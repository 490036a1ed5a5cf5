-- `perfect::extremes::farthest` meets its contract.
use mir.Facts.{to_z-of_z}
use borrow.Author.Rules.{sfits_of}
use Rattle.laws.specs.Extremes.{at_farthest}
use Rattle.perfect.proofs.extremes.farthest.Goals as goal

pub returns : goal.returns
unfolding at_farthest
returns g c =
    λ d h.
    rw (
      to_z-of_z (sfits_of c.distance-d.type_inv),
      to_z-of_z (sfits_of c.distance.type_inv),
      to_z-of_z (sfits_of c.distance-2.type_inv),
      h _ _ c.distance-d.ensures,
      h _ _ c.distance.ensures,
      h _ _ c.distance-2.ensures,
      to_z-of_z c.ranges.x,
    )
