-- `theorems::parts::placings_accepted`: proved in proofs/Placed. Assumes nothing.
use Rattle.theorems.proofs.Placed.{placings-accepted}
use Rattle.theorems.proofs.parts.placings_accepted.Statement.{statement}
use Rattle.theorems.proofs.parts.placings_accepted.Tie as tie

pub placings_accepted_spec : {M : Type 1} → statement M
placings_accepted_spec = tie.close (tie.spec (λ c. placings-accepted))
