-- `lanes::vetted::base::placed` meets its contract.
use native.Mathlib.Omega.{arith}
use mir.Facts.{to_z-of_z}
use Rattle.lanes.proofs.Tests.{place-pos, place-small, place-below, place-above, place_at}
use Rattle.lanes.proofs.vetted.base.placed.Goals as goal

pub returns-then-y-lt0 : goal.returns-then-y-lt0
returns-then-y-lt0 c =
    rw c.if-same.false (place-below c.args.to.now c.args.y (rw (to_z-of_z c.ranges.y) at c.if-y-lt0.true))

pub overflow_cast-at : goal.overflow_cast-at
overflow_cast-at c =
    let y = to_z-of_z c.ranges.y in
    let low = rw y at c.if-y-lt0.false in
    let p = place-small c.args.y low (rw y at c.if-y-lt33.true) in
    rw y (place-pos c.args.y low, omega (arith, p))

pub bounds-to-at : goal.bounds-to-at
bounds-to-at c =
    let y = to_z-of_z c.ranges.y in
    rw y (place-small c.args.y (rw y at c.if-y-lt0.false) (rw y at c.if-y-lt33.true))

pub returns-then-y-lt33 : goal.returns-then-y-lt33
returns-then-y-lt33 c =
    let y = to_z-of_z c.ranges.y in
    rw (y, c.if-same.false)
    (place_at c.args.to.now c.args.y (rw y at c.if-y-lt0.false) (rw y at c.if-y-lt33.true))

pub returns : goal.returns
returns c =
    rw c.if-same.false
    (place-above c.args.to.now c.args.y (rw (to_z-of_z c.ranges.y) at c.if-y-lt33.false))
