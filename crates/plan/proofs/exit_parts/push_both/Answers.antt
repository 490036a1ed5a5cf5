-- `plan::exit_parts::push_both` meets its contract.
use mathlib.Core.Path.{refl}
use Rattle.plan.specs.Exits.{pushed}
use Rattle.plan.proofs.exit_parts.push_both.Goals as goal

pub returns-then-is_nothing : goal.returns-then-is_nothing
unfolding pushed
returns-then-is_nothing c =
    rw (← c.is_nothing.ensures, ← c.is_nothing-2.ensures, c.if-is_nothing.true, c.part.ensures, c.part-then-is_nothing.ensures, c.own.ensures)
    refl

pub returns-else-is_nothing : goal.returns-else-is_nothing
unfolding pushed
returns-else-is_nothing c = rw (← c.is_nothing.ensures, ← c.is_nothing-2.ensures, c.if-is_nothing.false) refl
