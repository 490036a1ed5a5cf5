-- `perfect::perfect` meets its contract.
use mathlib.Core.Path.{sym, ◌∙◌}
use native.Mathlib.Omega.{arith}
use borrow.Author.Rules.{rules}
use Rattle.model.specs.Compare.{fails_row}
use Rattle.model.specs.Perfect.{perfect_reply}
use Rattle.perfect.proofs.MarksLaws.{asked-few}
use Rattle.perfect.proofs.Reply.{says, asked}
use Rattle.perfect.proofs.perfect.Goals as goal

pub returns-in_err-term_verdict : goal.returns-in_err-term_verdict
unfolding perfect_reply fails_row
returns-in_err-term_verdict c =
    let a = c.args in
    says a.table.now a.columns a.term a.row.now _ (rw (sym c.in_err-term_verdict.ensures) (search rules))

pub overflow_cast-term : goal.overflow_cast-term
overflow_cast-term c =
    let a = c.args in
    record {
      fits = omega (
        arith,
        asked-few a.table.now a.term (asked a.table.now a.columns a.term a.row.now _ (sym c.in_ok-term_verdict.ensures)),
      );
    }

pub is_perfect-perfect-requires : goal.is_perfect-perfect-requires
is_perfect-perfect-requires c =
    let a = c.args in
    asked a.table.now a.columns a.term a.row.now _ (sym c.in_ok-term_verdict.ensures)

pub returns-then-perfect : goal.returns-then-perfect
unfolding perfect_reply fails_row
returns-then-perfect c =
    let a = c.args in
    says a.table.now a.columns a.term a.row.now _
    (rw (sym c.in_ok-term_verdict.ensures, sym c.is_perfect-perfect.ensures ∙ c.if-perfect.true))

pub returns-else-perfect : goal.returns-else-perfect
unfolding perfect_reply fails_row
returns-else-perfect c =
    let a = c.args in
    says a.table.now a.columns a.term a.row.now _
    (rw (sym c.in_ok-term_verdict.ensures, sym c.is_perfect-perfect.ensures ∙ c.if-perfect.false))
