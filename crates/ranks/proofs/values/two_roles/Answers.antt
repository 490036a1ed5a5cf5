-- `ranks::values::two_roles` meets its contract.
use mathlib.Core.Path.{refl}
use mir.Facts.{to_z-of_z}
use Rattle.ranks.specs.Put.{two_roles}
use Rattle.ranks.proofs.Named.{then_put}
use Rattle.ranks.proofs.values.two_roles.Goals as goal

pub returns : goal.returns
unfolding two_roles
returns c =
    then_put c.one_role.ensures c.put_role.ensures (λ x r. rw (to_z-of_z c.ranges.others, to_z-of_z c.ranges.class) refl)
