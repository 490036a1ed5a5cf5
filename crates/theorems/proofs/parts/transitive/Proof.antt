-- `theorems::parts::transitive`: proved in specs/Ordered. Assumes nothing.
use Rattle.theorems.specs.Ordered.{transitive}
use Rattle.theorems.proofs.parts.transitive.Statement.{statement}
use Rattle.theorems.proofs.parts.transitive.Tie as tie

pub transitive_spec : {M : Type 1} → statement M
transitive_spec = tie.close (tie.spec (λ c. transitive))
