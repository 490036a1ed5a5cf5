-- `terms::distances::least_to_most` meets its contract.
use mathlib.Core.Path.{◌∙◌}
use mir.Facts.{to_z-of_z}
use borrow.Author.Rules.{sfits_of}
use Rattle.model.specs.Better.{distance}
use mir.Syntax.{w64}
use Rattle.terms.proofs.distances.least_to_most.Goals as goal

pub returns : goal.returns
unfolding distance
returns c = to_z-of_z {w = w64} (sfits_of c.distance.type_inv) ∙ c.distance.ensures
