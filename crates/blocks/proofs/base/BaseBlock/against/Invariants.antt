-- `blocks::base::BaseBlock::against` meets its contract: the array holds the codes against places below `q`.
use mathlib.Core.Path.{◌≡◌}
use Prim.Native.Nat.{◌≤◌}
use lib.ListN.{length}
use Rattle.blocks.specs.Base.{Against}
use Rattle.blocks.proofs.base.BaseBlock.against.Given as goal

abbrev pub invariant-loop-q : goal.invariant-loop-q
invariant-loop-q l =
    (l.first ≤ l.q) × (length l.to ≡ 33) × Against l.self.reach.now l.self.run.k l.self.run.e l.p l.q l.to
