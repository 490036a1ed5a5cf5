-- `theorems::kept_is_unbeaten`: proved in specs/Select of `laws`. Assumes nothing.
use Rattle.laws.specs.Select.{kept-unbeaten}
use Rattle.theorems.proofs.kept_is_unbeaten.Statement.{statement}
use Rattle.theorems.proofs.kept_is_unbeaten.Tie as tie

pub kept_is_unbeaten_spec : {M : Type 1} → statement M
kept_is_unbeaten_spec = tie.close (tie.spec (λ c. kept-unbeaten))
