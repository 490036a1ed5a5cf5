-- `plan::exit_parts::push_left` meets its contract.
use mathlib.Core.Path.{refl, sym, ◌∙◌}
use Rattle.plan.specs.Exits.{left_pushed}
use Rattle.plan.proofs.exit_parts.push_left.Goals as goal

pub returns-then-is_nothing : goal.returns-then-is_nothing
unfolding left_pushed
returns-then-is_nothing c = rw (sym c.is_nothing.ensures ∙ c.if-is_nothing.true) refl

pub returns-else-is_nothing : goal.returns-else-is_nothing
unfolding left_pushed
returns-else-is_nothing c = rw (sym c.is_nothing.ensures ∙ c.if-is_nothing.false) refl
