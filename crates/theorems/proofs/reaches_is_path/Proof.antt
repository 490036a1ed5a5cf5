-- `theorems::reaches_is_path`: proved in specs/Reach of `laws`. Assumes nothing.
use Rattle.laws.specs.Reach.{reaches-path}
use Rattle.theorems.proofs.reaches_is_path.Statement.{statement}
use Rattle.theorems.proofs.reaches_is_path.Tie as tie

pub reaches_is_path_spec : {M : Type 1} → statement M
reaches_is_path_spec = tie.close (tie.spec (λ c. reaches-path))
