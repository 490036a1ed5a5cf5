-- `rows::vetted::cells::fill_block` meets its contract: of block b the columns below c.
use Rattle.rows.specs.Values.{Filled}
use Rattle.rows.proofs.vetted.cells.fill_block.Given as goal

abbrev pub invariant-loop-c : goal.invariant-loop-c
invariant-loop-c l = Filled l.rows.columns l.rows.cells.now l.rows.n l.b l.c l.values
