-- `parts::kept::Kept::first_names` meets its contract.
use Rattle.laws.specs.Wrote.{Wrote}
use Rattle.parts.specs.Entry.{first_name}
use Rattle.parts.proofs.kept.Kept.first_names.Given as goal

abbrev pub invariant-loop-j : goal.invariant-loop-j
invariant-loop-j l = Wrote 0 (first_name l.self.gone.now l.first) 0 l.j l.initial.by l.by
