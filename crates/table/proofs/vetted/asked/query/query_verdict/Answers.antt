-- `table::vetted::asked::query::query_verdict` meets its contract.
use mathlib.Core.Path.{sym, ◌∙◌}
use borrow.Author.Rules.{rules}
use Rattle.model.specs.Query.{query_verdict}
use Rattle.laws.specs.Taken.{term-gives}
use Rattle.table.proofs.Verdicts.{rows-judged, some-column}
use Rattle.table.proofs.vetted.asked.query.query_verdict.Goals as goal

pub returns-in_err-term_verdict : goal.returns-in_err-term_verdict
unfolding query_verdict
returns-in_err-term_verdict c =
    let a = c.args in
    let e = rows-judged a.table.now a.columns a.term c.fails_rows.ensures in
    rw (e ∙ sym c.in_err-term_verdict.ensures) (search rules)

pub group_and_room-requires : goal.group_and_room-requires
group_and_room-requires c =
    let a = c.args in
    some-column (term-gives a.table.now a.columns c.fails_rows.result a.term (sym c.in_ok-term_verdict.ensures)).0

pub returns : goal.returns
unfolding query_verdict
returns c =
    let a = c.args in
    let e = rows-judged a.table.now a.columns a.term c.fails_rows.ensures in
    rw (e ∙ sym c.in_ok-term_verdict.ensures) c.group_and_room.ensures
