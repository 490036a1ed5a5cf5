-- `parts::rounds::round` meets its contract: row i has met the rows before block b.
use Prim.Native.Nat.{◌*◌}
use Rattle.laws.specs.Elimination.{Turn}
use Rattle.laws.specs.Firsts.{Firsts}
use Rattle.blocks.specs.Alive.{Above}
use Rattle.parts.specs.Beats.{beats_of}
use Rattle.parts.proofs.rounds.round.Given as goal

abbrev pub invariant-loop-b : goal.invariant-loop-b
invariant-loop-b l =
    record {
      turn : Turn (beats_of l.blocks) l.blocks.rows.n l.i (l.b * 64) l.gone;
      above : Above l.blocks.rows.n l.gone;
      firsts : Firsts (beats_of l.blocks) l.blocks.rows.n l.gone l.first;
    }
