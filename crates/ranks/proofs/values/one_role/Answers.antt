-- `ranks::values::one_role` meets its contract.
use mathlib.Core.Path.{refl}
use mir.Facts.{to_z-of_z}
use borrow.Author.Rules.{rules}
use Rattle.ranks.specs.Put.{one_role}
use Rattle.ranks.proofs.Named.{filled, then_put}
use Rattle.ranks.proofs.values.one_role.Goals as goal

pub returns : goal.returns
unfolding one_role
returns c =
    then_put (filled (c.fill.ensures.after (λ y is. search rules))) c.put_role.ensures
    (λ x r. rw (to_z-of_z c.ranges.others, to_z-of_z c.ranges.class) refl)
