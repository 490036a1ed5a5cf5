-- `demands::agreement::witnesses::row_witnessed` meets its contract, branch by branch.
use borrow.Author.Tests.{eq-eqb, ne_eqb, lt-ltb, le-ltb}
use Rattle.demands.specs.Witness.{witnessed}
use Rattle.demands.proofs.agreement.witnesses.row_witnessed.Goals as goal

pub returns-then-e-i : goal.returns-then-e-i
unfolding witnessed
returns-then-e-i c =
    let a = c.args in
    rw (← c.widened-e.ensures, eq-eqb c.widened-e.result a.i c.if-e-i.true)

pub returns-then-e-n : goal.returns-then-e-n
unfolding witnessed
returns-then-e-n c =
    let a = c.args in
    let e = c.widened-e.result in
    rw (
      ← c.widened-e.ensures,
      ne_eqb e a.i c.if-e-i.false,
      lt-ltb e a.n c.if-e-n.true,
    )
    c.is_witness.ensures

pub returns : goal.returns
unfolding witnessed
returns c =
    let a = c.args in
    let e = c.widened-e.result in
    rw (← c.widened-e.ensures, ne_eqb e a.i c.if-e-i.false, le-ltb e a.n c.if-e-n.false)
