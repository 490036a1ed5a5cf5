-- `parts::rounds::eliminate` meets its contract: the rounds of the rows below i are over.
use Rattle.laws.specs.Elimination.{Rounds}
use Rattle.laws.specs.Firsts.{Firsts}
use Rattle.blocks.specs.Alive.{Above}
use Rattle.parts.specs.Beats.{beats_of}
use Rattle.parts.proofs.rounds.eliminate.Given as goal

abbrev pub invariant-loop-i : goal.invariant-loop-i
invariant-loop-i l =
    record {
      rounds : Rounds (beats_of l.blocks) l.blocks.rows.n l.i l.gone;
      above : Above l.blocks.rows.n l.gone;
      firsts : Firsts (beats_of l.blocks) l.blocks.rows.n l.gone l.first;
    }
