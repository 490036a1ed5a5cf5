-- `ranks::distance::between_rank` meets its contract.
use mir.Facts.{to_z-of_z}
use borrow.Author.Rules.{sfits_of}
use Rattle.model.specs.Bytes.{Value32}
use Rattle.model.specs.Better.{distance_between}
use Rattle.laws.specs.Distance.{distance_between-range}
use Rattle.ranks.specs.Rank.{centred}
use Rattle.ranks.proofs.Ranks.{moved-fits}
use Rattle.ranks.proofs.distance.between_rank.Goals as goal

pub centred-requires : goal.centred-requires
centred-requires c =
    let a = c.args in
    let f = c.ranges in
    let l : Value32 a.low = record { bound = f.low.sfits } in
    let u : Value32 a.up = record { bound = f.up.sfits } in
    let v : Value32 a.x = record { bound = f.x.sfits } in
    rw (
      to_z-of_z (sfits_of c.distance_between.type_inv),
      c.distance_between.ensures,
      to_z-of_z f.low,
      to_z-of_z f.up,
      to_z-of_z f.x,
    )
    (moved-fits (distance_between a.low a.up a.x) (distance_between-range a.low a.up a.x l u v))

pub returns : goal.returns
unfolding centred
returns c =
    let f = c.ranges in
    rw (
      to_z-of_z (sfits_of c.centred.type_inv),
      c.centred.ensures,
      to_z-of_z (sfits_of c.distance_between.type_inv),
      c.distance_between.ensures,
      to_z-of_z f.low,
      to_z-of_z f.up,
      to_z-of_z f.x,
    )
