-- `table::check` meets its contract.
use mathlib.Core.Path.{sym}
use Rattle.table.proofs.VerdictLaws.{summed}
use Rattle.table.proofs.check.Goals as goal

pub summary_of-requires : goal.summary_of-requires
summary_of-requires c =
    let a = c.args in
    summed a.table.now a.columns (sym c.in_ok-table_verdict.ensures)
