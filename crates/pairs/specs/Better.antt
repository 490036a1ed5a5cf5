-- Which rows of a run are better, as the direct engine compares them.
use Rattle.model.specs.Term.{term_at}
use Rattle.model.specs.Query.{beats_in}
use Rattle.laws.specs.Order.{Rel}
use Rattle.std.specs.Prelude.{ℕ}
use Rattle.pairs.specs.declared.vetted.pairs.Pairs.{Pairs}

-- `better p j i` reads "row j is in row i's set and better".
abbrev pub better : Pairs → Rel ℕ
better p = beats_in (term_at p.table.now p.term) p.rows.columns p.rows.cells.now p.group
