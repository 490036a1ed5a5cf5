-- Which rows of a query beat which.
use Rattle.std.specs.Prelude.{ℕ}
use Rattle.model.specs.Term.{term_at}
use Rattle.model.specs.Query.{beats_in}
use Rattle.laws.specs.Order.{Rel}
use Rattle.blocks.specs.declared.vetted.prepared.Blocks.{Blocks}

-- Row j is in row i's set and better, under the asked term.
abbrev pub beats_of : Blocks → Rel ℕ
beats_of q = beats_in (term_at q.of.table.now q.term) q.rows.columns q.rows.cells.now q.group
