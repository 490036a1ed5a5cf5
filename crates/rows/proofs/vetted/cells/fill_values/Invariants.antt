-- `rows::vetted::cells::fill_values` meets its contract: the blocks below b.
use Rattle.rows.specs.Values.{Filled}
use Rattle.rows.proofs.vetted.cells.fill_values.Given as goal

abbrev pub invariant-loop-b : goal.invariant-loop-b
invariant-loop-b l = Filled l.rows.columns l.rows.cells.now l.rows.n l.b 0 l.values
