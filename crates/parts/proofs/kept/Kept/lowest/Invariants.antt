-- `parts::kept::Kept::lowest` meets its contract: no row before block b is kept and beats row i.
use Prim.Native.Nat.{◌*◌}
use Rattle.parts.specs.Beats.{beats_of}
use Rattle.parts.proofs.ByBlocks.{NoneBelow}
use Rattle.parts.proofs.kept.Kept.lowest.Given as goal

abbrev pub invariant-loop-b : goal.invariant-loop-b
invariant-loop-b l = NoneBelow (beats_of l.self.of) l.self.of.rows.n l.i (l.b * 64)
