-- `perfect::extremes::first_or_second` meets its contract.
use mir.Facts.{to_z-of_z}
use Rattle.laws.specs.Extremes.{has_role}
use Rattle.perfect.proofs.extremes.first_or_second.Goals as goal

pub returns : goal.returns
unfolding has_role
returns c =
    rw (c.in_role.ensures, c.has_role.ensures, c.in_role_or_none.ensures, to_z-of_z c.ranges.x)
