-- `demands::agreement::stays::holds_own` meets its contract: the entry is there.
use Prim.Native.Nat.{suc}
use native.Mathlib.Omega.{arith}
use Rattle.demands.specs.Leaving.{holds_own}
use Rattle.demands.proofs.Marked.{any-default}
use Rattle.demands.proofs.agreement.stays.holds_own.Goals as goal

pub overflow_cast-result : goal.overflow_cast-result
overflow_cast-result c = omega (arith, c.type_inv.entries c.args.i)

pub returns : goal.returns
unfolding holds_own
returns c =
    rw (any-default c.args.entries.now c.args.i 0 (suc c.args.i) c.requires)
