-- `theorems::parts::prior_keeps`: proved in proofs/Placed. Assumes nothing.
use Rattle.theorems.proofs.Placed.{prior-keeps}
use Rattle.theorems.proofs.parts.prior_keeps.Statement.{statement}
use Rattle.theorems.proofs.parts.prior_keeps.Tie as tie

pub prior_keeps_spec : {M : Type 1} → statement M
prior_keeps_spec = tie.close (tie.spec (λ c. prior-keeps))
