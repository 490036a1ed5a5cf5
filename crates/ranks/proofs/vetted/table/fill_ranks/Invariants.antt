-- `ranks::vetted::table::fill_ranks` meets its contract.
use Rattle.ranks.specs.Ranked.{Ranked}
use Rattle.ranks.proofs.vetted.table.fill_ranks.Given as goal

abbrev pub invariant-loop-k : goal.invariant-loop-k
invariant-loop-k l = Ranked l.of.table.now l.ends l.marks l.rows.columns l.rows.cells.now l.rows.n l.stride l.k l.ranks
