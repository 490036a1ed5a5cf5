-- `perfect::extremes::none_worse` meets its contract.
use native.Mathlib.Omega.{arith}
use mir.Facts.{to_z-of_z}
use mir.Syntax.{w32}
use mir.Val.{SFits}
use borrow.Author.Rules.{rules}
use Rattle.model.specs.Better.{distance, distance_between}
use Rattle.laws.specs.Extremes.{none_worse}
use Rattle.records.proofs.Signed.{eq-bits}
use Rattle.perfect.proofs.extremes.none_worse.Goals as goal

pub returns-in-Lowest : goal.returns-in-Lowest
unfolding none_worse
returns-in-Lowest c = rw c.in-Lowest.is (eq-bits c.ranges.x (record { sfits = omega arith }))

pub returns-in-Highest : goal.returns-in-Highest
unfolding none_worse
returns-in-Highest c = rw c.in-Highest.is (eq-bits c.ranges.x (record { sfits = omega arith }))

pub returns-in-Around : goal.returns-in-Around
unfolding none_worse
returns-in-Around c =
    let wish : SFits w32 c.in-Around.wish = record { sfits = c.in-Around.known_told-1-own.given.0.1 } in
    rw (c.in-Around.is, c.farthest.ensures (distance c.in-Around.wish) (λ y r p. search (rules, to_z-of_z wish)), to_z-of_z c.ranges.x)

pub returns-in-Between : goal.returns-in-Between
unfolding none_worse
returns-in-Between c =
    let low : SFits w32 c.in-Between.low = record { sfits = c.in-Between.known_told-in-Between-1-own.given.0.1 } in
    let up : SFits w32 c.in-Between.up = record { sfits = c.in-Between.known_told-in-Between-1-own.given.1.0.1 } in
    rw (
      c.in-Between.is,
      c.farthest-in-Between.ensures (distance_between c.in-Between.low c.in-Between.up)
          (λ y r p. search (rules, to_z-of_z low, to_z-of_z up)),
      to_z-of_z c.ranges.x,
    )

pub returns-in-Pos : goal.returns-in-Pos
unfolding none_worse
returns-in-Pos c =
    rw (c.in-Pos.is, c.in_role.ensures, to_z-of_z c.ranges.x)

pub returns-in-Neg : goal.returns-in-Neg
unfolding none_worse
returns-in-Neg c =
    rw (c.in-Neg.is, c.in_role_or_none.ensures, to_z-of_z c.ranges.x)

pub returns-in-PosNeg : goal.returns-in-PosNeg
unfolding none_worse
returns-in-PosNeg c =
    rw (c.in-PosNeg.is, c.in_role_or_apart.ensures, to_z-of_z c.ranges.x)

pub returns-in-PosPos : goal.returns-in-PosPos
unfolding none_worse
returns-in-PosPos c =
    rw (c.in-PosPos.is, c.in_neither.ensures, to_z-of_z c.ranges.x)

pub returns-in-Explicit : goal.returns-in-Explicit
unfolding none_worse
returns-in-Explicit c =
    rw (c.in-Explicit.is, c.in_edge.ensures, to_z-of_z c.ranges.x)

pub returns-in-Any : goal.returns-in-Any
unfolding none_worse
returns-in-Any c = rw c.in-Any.is
