-- `parts::kept::Kept::by_rows` meets its contract: the rows below i have their name.
use Rattle.laws.specs.Named.{NamedTo}
use Rattle.parts.specs.Beats.{beats_of}
use Rattle.parts.proofs.kept.Kept.by_rows.Given as goal

abbrev pub invariant-loop-i : goal.invariant-loop-i
invariant-loop-i l = NamedTo (beats_of l.self.of) l.self.of.rows.n l.i l.by
