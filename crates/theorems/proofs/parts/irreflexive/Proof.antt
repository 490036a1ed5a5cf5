-- `theorems::parts::irreflexive`: proved in specs/Ordered. Assumes nothing.
use Rattle.theorems.specs.Ordered.{irreflexive}
use Rattle.theorems.proofs.parts.irreflexive.Statement.{statement}
use Rattle.theorems.proofs.parts.irreflexive.Tie as tie

pub irreflexive_spec : {M : Type 1} → statement M
irreflexive_spec = tie.close (tie.spec (λ c. irreflexive))
