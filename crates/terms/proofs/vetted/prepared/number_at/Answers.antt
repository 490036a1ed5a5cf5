-- `terms::vetted::prepared::number_at` meets its contract.
use mathlib.Core.Path.{◌∙◌}
use mir.Facts.{to_z-of_z}
use borrow.Author.Tests.{eq-eqb, ne_eqb}
use borrow.Author.Rules.{sfits_of}
use Rattle.terms.specs.Prepared.{number_at}
use mir.Syntax.{w32}
use Rattle.terms.proofs.vetted.prepared.number_at.Goals as goal

pub returns-then-i-eq0 : goal.returns-then-i-eq0
unfolding number_at
returns-then-i-eq0 c = rw (eq-eqb _ _ c.if-i-eq0.true) (to_z-of_z {w = w32} (sfits_of c.u_at.type_inv) ∙ c.u_at.ensures)

pub returns : goal.returns
unfolding number_at
returns c = rw (ne_eqb _ _ c.if-i-eq0.false) (to_z-of_z {w = w32} (sfits_of c.v_at.type_inv) ∙ c.v_at.ensures)
