-- `lanes::vetted::base::order` meets its contract.
use native.Mathlib.Omega.{arith}
use lib.Signed.{lt_z}
use mir.Syntax.{w32}
use mir.Val.{to_z, of_z}
use mir.Facts.{to_z-of_z}
use Rattle.laws.specs.Tests.{byte_small}
use Rattle.lanes.proofs.Tests.{order-sum}
use Rattle.lanes.proofs.vetted.base.order.Goals as goal

pub overflow_mul-result : goal.overflow_mul-result
overflow_mul-result c =
    let x = to_z w32 (of_z w32 c.args.x) in
    let y = to_z w32 (of_z w32 c.args.y) in
    omega (arith, byte_small (lt_z x y), byte_small (lt_z y x))

pub overflow_add-result : goal.overflow_add-result
overflow_add-result c =
    let x = to_z w32 (of_z w32 c.args.x) in
    let y = to_z w32 (of_z w32 c.args.y) in
    omega (arith, byte_small (lt_z x y), byte_small (lt_z y x))

pub returns : goal.returns
returns c =
    rw (to_z-of_z c.ranges.x, to_z-of_z c.ranges.y) (order-sum c.args.x c.args.y)
