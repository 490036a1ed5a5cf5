-- `table::vetted::asked::term_verdict` meets its contract.
use mathlib.Core.Path.{sym}
use borrow.Author.Rules.{rules}
use Rattle.model.specs.Compare.{term_verdict}
use Rattle.laws.specs.Accepted.{accepted-gives}
use Rattle.laws.specs.AcceptedTable.{accepted-table}
use Rattle.table.proofs.vetted.asked.term_verdict.Goals as goal

pub returns-in_err-table_verdict : goal.returns-in_err-table_verdict
unfolding term_verdict
returns-in_err-table_verdict c = rw (sym c.in_err-table_verdict.ensures) (search rules)

pub rows_and_term-requires : goal.rows_and_term-requires
rows_and_term-requires c =
    let a = c.args in
    let ok = accepted-gives a.table.now a.columns (sym c.in_ok-table_verdict.ensures) in
    (accepted-table a.table.now a.columns ok).few_records

pub returns : goal.returns
unfolding term_verdict
returns c = rw (sym c.in_ok-table_verdict.ensures) c.rows_and_term.ensures
