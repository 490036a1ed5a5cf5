-- `pairs::values::by_rank` meets its contract.
use mathlib.Core.Bool.{false}
use native.Mathlib.Omega.{arith}
use mir.Facts.{to_z-of_z}
use Rattle.laws.specs.Tests.{ranked-sum}
use Rattle.pairs.proofs.values.by_rank.Goals as goal

pub returns : goal.returns
returns c =
    rw (to_z-of_z c.ranges.x, to_z-of_z c.ranges.y) (omega (arith, ranked-sum false c.args.x c.args.y))
