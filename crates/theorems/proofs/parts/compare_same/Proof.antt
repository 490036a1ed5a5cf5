-- `theorems::parts::compare_same`: proved in specs/Ordered. Assumes nothing.
use Rattle.theorems.specs.Ordered.{compare_same}
use Rattle.theorems.proofs.parts.compare_same.Statement.{statement}
use Rattle.theorems.proofs.parts.compare_same.Tie as tie

pub compare_same_spec : {M : Type 1} → statement M
compare_same_spec = tie.close (tie.spec (λ c. compare_same))
