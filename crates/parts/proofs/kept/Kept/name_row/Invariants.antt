-- `parts::kept::Kept::name_row` meets its contract: row i has named those rows before block b that it beats.
use Prim.Native.Nat.{◌*◌}
use Rattle.blocks.specs.Alive.{Beyond}
use Rattle.parts.specs.Beats.{beats_of}
use Rattle.parts.specs.Naming.{Naming}
use Rattle.parts.proofs.kept.Kept.name_row.Given as goal

abbrev pub invariant-loop-b : goal.invariant-loop-b
invariant-loop-b l =
    record {
      naming : Naming (beats_of l.self.of) l.self.of.rows.n l.i (l.b * 64) l.by;
      beyond : Beyond l.self.of.rows.n l.by;
    }
