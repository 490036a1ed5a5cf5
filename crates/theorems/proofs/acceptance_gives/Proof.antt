-- `theorems::acceptance_gives`: proved in specs/Accepted of `laws`. Assumes nothing.
use Rattle.laws.specs.Accepted.{accepted-true}
use Rattle.theorems.proofs.acceptance_gives.Statement.{statement}
use Rattle.theorems.proofs.acceptance_gives.Tie as tie

pub acceptance_gives_spec : {M : Type 1} → statement M
acceptance_gives_spec = tie.close (tie.spec (λ c. accepted-true))
