-- `compare::compare` meets its contract.
use mathlib.Core.Path.{sym}
use native.Mathlib.Omega.{arith}
use borrow.Author.Rules.{rules}
use Rattle.model.specs.Compare.{fails_row, compare_reply}
use Rattle.compare.proofs.OutcomesCoded.{term-below}
use Rattle.compare.proofs.Asked.{asked_of}
use Rattle.compare.proofs.compare.Goals as goal

pub returns-in_err-term_verdict : goal.returns-in_err-term_verdict
unfolding compare_reply fails_row
returns-in_err-term_verdict c = rw (sym c.in_err-term_verdict.ensures) (search rules)

pub overflow_cast-term : goal.overflow_cast-term
unfolding fails_row
overflow_cast-term c =
    let a = c.args in
    let x = a.first.now in
    let y = a.second.now in
    omega (
      arith,
      term-below a.table.now a.term x y
          (asked_of a.table.now a.columns a.term x y (sym c.in_ok-term_verdict.ensures)),
    )

pub compared-requires : goal.compared-requires
unfolding fails_row
compared-requires c =
    let a = c.args in
    asked_of a.table.now a.columns a.term a.first.now a.second.now (sym c.in_ok-term_verdict.ensures)

pub returns : goal.returns
unfolding compare_reply fails_row
returns c = rw (sym c.in_ok-term_verdict.ensures, c.compared.ensures)
