-- `terms::vetted::closure::row_with` meets its contract.
use mathlib.Core.Path.{sym}
use mathlib.Core.Bool.{or-false}
use Rattle.terms.specs.Closure.{cell_at, reaches_at}
use Rattle.terms.proofs.vetted.closure.row_with.Goals as goal

pub returns-then-x-a : goal.returns-then-x-a
unfolding reaches_at cell_at
returns-then-x-a c = λ b h. rw (c.either.ensures b h, c.if-x-a.true)

pub returns : goal.returns
unfolding reaches_at cell_at
returns c = λ b h. rw c.if-x-a.false (sym (or-false _))
