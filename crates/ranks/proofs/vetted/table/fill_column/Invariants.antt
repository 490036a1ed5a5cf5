-- `ranks::vetted::table::fill_column` meets its contract: the ranks in the blocks below i.
use Rattle.ranks.specs.Ranked.{RankOf, Ranking}
use Rattle.ranks.proofs.vetted.table.fill_column.Given as goal

abbrev pub invariant-loop-i : goal.invariant-loop-i
invariant-loop-i l =
    Ranking (RankOf l.run.of.table.now l.run.k l.run.e l.b l.rows.columns l.rows.cells.now l.column) l.rows.n l.stride l.run.k l.i
    l.initial.ranks l.ranks
