-- `plan::vetted::exit_masks::wholly` meets its contract.
use borrow.Author.Tests.{eq-eqb, ne_eqb}
use Rattle.plan.specs.Told.{wholly_code}
use Rattle.plan.proofs.vetted.exit_masks.wholly.Goals as goal

pub returns-then-c-eq0 : goal.returns-then-c-eq0
unfolding wholly_code
returns-then-c-eq0 c = rw (eq-eqb _ _ c.if-c-eq0.true)

pub returns-else-c-eq0 : goal.returns-else-c-eq0
unfolding wholly_code
returns-else-c-eq0 c = rw (ne_eqb _ _ c.if-c-eq0.false)
