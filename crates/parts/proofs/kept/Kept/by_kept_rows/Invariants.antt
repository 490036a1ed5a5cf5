-- `parts::kept::Kept::by_kept_rows` meets its contract: the rows below i have named those that they beat.
use Rattle.blocks.specs.Alive.{Beyond}
use Rattle.laws.specs.Named.{Named}
use Rattle.parts.specs.Beats.{beats_of}
use Rattle.parts.proofs.kept.Kept.by_kept_rows.Given as goal

abbrev pub invariant-loop-i : goal.invariant-loop-i
invariant-loop-i l =
    record {
      named : Named (beats_of l.self.of) l.self.of.rows.n l.i l.by;
      beyond : Beyond l.self.of.rows.n l.by;
    }
