-- `ranks::distance::around_rank` meets its contract.
use mir.Facts.{to_z-of_z}
use borrow.Author.Rules.{sfits_of}
use Rattle.model.specs.Better.{distance}
use Rattle.laws.specs.Distance.{distance-range}
use Rattle.ranks.specs.Rank.{centred}
use Rattle.ranks.proofs.Ranks.{moved-fits}
use Rattle.ranks.proofs.distance.around_rank.Goals as goal

pub centred-requires : goal.centred-requires
centred-requires c =
    let a = c.args in
    let f = c.ranges in
    rw (to_z-of_z (sfits_of c.distance.type_inv), c.distance.ensures, to_z-of_z f.wish, to_z-of_z f.x)
    (moved-fits (distance a.wish a.x)
    (distance-range a.wish a.x (record { bound = f.wish.sfits }) (record { bound = f.x.sfits })))

pub returns : goal.returns
unfolding centred
returns c =
    let f = c.ranges in
    rw (
      to_z-of_z (sfits_of c.centred.type_inv),
      c.centred.ensures,
      to_z-of_z (sfits_of c.distance.type_inv),
      c.distance.ensures,
      to_z-of_z f.wish,
      to_z-of_z f.x,
    )
