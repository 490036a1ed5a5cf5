-- `lanes::vetted::base::ranked` meets its contract.
use mathlib.Core.Bool.{not}
use Prim.Native.Nat.{◌+◌, ◌*◌}
use native.Mathlib.Omega.{arith}
use lib.Signed.{le_z}
use mir.Syntax.{w32}
use mir.Val.{bool_byte, to_z, of_z}
use mir.Facts.{to_z-of_z}
use Rattle.laws.specs.Tests.{byte_small, byte-factor, ranked-sum}
use Rattle.lanes.proofs.vetted.base.ranked.Goals as goal

pub overflow_mul-result : goal.overflow_mul-result
overflow_mul-result c =
    let x = to_z w32 (of_z w32 c.args.x) in
    let y = to_z w32 (of_z w32 c.args.y) in
    omega (arith, byte_small (le_z x y), byte_small (le_z y x))

pub overflow_add-result : goal.overflow_add-result
overflow_add-result c =
    let x = to_z w32 (of_z w32 c.args.x) in
    let y = to_z w32 (of_z w32 c.args.y) in
    omega (arith, byte_small (le_z x y), byte_small (le_z y x))

pub overflow_mul-result-2 : goal.overflow_mul-result-2
overflow_mul-result-2 c =
    let x = to_z w32 (of_z w32 c.args.x) in
    let y = to_z w32 (of_z w32 c.args.y) in
    omega (
      arith,
      byte_small (le_z x y),
      byte_small (le_z y x),
      byte-factor (not c.args.same) (bool_byte (le_z x y) + 2 * bool_byte (le_z y x)),
    )

pub returns : goal.returns
returns c =
    rw (to_z-of_z c.ranges.x, to_z-of_z c.ranges.y) (ranked-sum c.args.same c.args.x c.args.y)
