-- `perfect::extremes::in_role_or_apart` meets its contract.
use mir.Facts.{to_z-of_z}
use Rattle.laws.specs.Extremes.{has_role}
use Rattle.perfect.proofs.extremes.in_role_or_apart.Goals as goal

pub returns : goal.returns
unfolding has_role
returns c =
    rw (c.in_role.ensures, c.has_role.ensures, c.in_role-2.ensures, to_z-of_z c.ranges.x)
