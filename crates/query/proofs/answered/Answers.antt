-- `query::answered` meets its contract.
use mathlib.Core.Path.{sym}
use native.Mathlib.Omega.{arith}
use borrow.Author.Rules.{rules}
use Rattle.model.specs.Query.{query_reply, query_buffer}
use Rattle.laws.specs.Taken.{taken-gives}
use Rattle.selection.specs.Taken.{term-below}
use Rattle.query.proofs.answered.Goals as goal

pub returns-in_err-query_verdict : goal.returns-in_err-query_verdict
unfolding query_reply query_buffer
returns-in_err-query_verdict g c =
    let e = sym c.in_err-query_verdict.ensures in
    record { reply = rw e (search rules); buffer = rw e }

pub overflow_cast-term : goal.overflow_cast-term
overflow_cast-term g c =
    let a = c.args in
    let t = taken-gives a.table.now a.columns a.rows.now a.term a.group a.answers.now
    (sym c.in_ok-query_verdict.ensures) in
    omega (arith, term-below t.of_term)

pub selected-requires : goal.selected-requires
selected-requires g c =
    let a = c.args in
    taken-gives a.table.now a.columns a.rows.now a.term a.group a.answers.now (sym c.in_ok-query_verdict.ensures)

pub returns : goal.returns
unfolding query_reply query_buffer
returns g c =
    let e = sym c.in_ok-query_verdict.ensures in
    record {
      reply = rw (e, c.selected.ensures.counted);
      buffer = rw e c.selected.ensures.written;
    }
