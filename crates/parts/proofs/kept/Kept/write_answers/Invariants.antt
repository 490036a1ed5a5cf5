-- `parts::kept::Kept::write_answers` meets its contract: the rows below i have their entries, and those that are
-- not gone are counted.
use mathlib.Core.Path.{◌≡◌}
use lib.Dec.{eqb}
use lib.ListN.{get_or}
use Rattle.model.specs.Search.{count_below, fill}
use Rattle.parts.specs.Entry.{entry_of}
use Rattle.parts.proofs.kept.Kept.write_answers.Given as goal

abbrev pub invariant-loop-i : goal.invariant-loop-i
invariant-loop-i l =
    record {
      counted : l.kept ≡ count_below l.i (λ j. eqb (get_or l.self.gone.now j 0) 0);
      written : l.answers ≡ fill l.i (entry_of l.self.gone.now l.by) l.initial.answers;
    }
