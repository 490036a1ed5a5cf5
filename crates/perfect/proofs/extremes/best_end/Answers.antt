-- `perfect::extremes::best_end` meets its contract.
use mir.Facts.{to_z-of_z}
use Rattle.laws.specs.Extremes.{has_role}
use Rattle.perfect.proofs.extremes.best_end.Goals as goal

pub returns : goal.returns
unfolding has_role
returns c =
    rw (c.has_role.ensures, c.in_edge.ensures, c.in_role.ensures, to_z-of_z c.ranges.x)
