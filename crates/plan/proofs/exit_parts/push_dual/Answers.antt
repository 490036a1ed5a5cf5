-- `plan::exit_parts::push_dual` meets its contract.
use mathlib.Core.Path.{refl, sym, ◌∙◌}
use Rattle.plan.specs.Exits.{dual_pushed}
use Rattle.plan.proofs.exit_parts.push_dual.Goals as goal

pub returns-then-is_nothing : goal.returns-then-is_nothing
unfolding dual_pushed
returns-then-is_nothing c = rw (sym c.is_nothing.ensures ∙ c.if-is_nothing.true, c.turned.ensures) refl

pub returns-else-is_nothing : goal.returns-else-is_nothing
unfolding dual_pushed
returns-else-is_nothing c = rw (sym c.is_nothing.ensures ∙ c.if-is_nothing.false) refl
