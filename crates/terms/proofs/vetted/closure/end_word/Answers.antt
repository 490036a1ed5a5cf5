-- `terms::vetted::closure::end_word` meets its contract.
use borrow.Author.Tests.{eq-eqb, ne_eqb}
use Rattle.terms.specs.Closure.{end_word}
use Rattle.terms.proofs.vetted.closure.end_word.Goals as goal

pub returns-then-a-eq0 : goal.returns-then-a-eq0
unfolding end_word
returns-then-a-eq0 c = rw (eq-eqb _ _ c.if-a-eq0.true) c.u_word.ensures

pub returns-else-a-eq0 : goal.returns-else-a-eq0
unfolding end_word
returns-else-a-eq0 c = rw (ne_eqb _ _ c.if-a-eq0.false) c.v_word.ensures
