-- `theorems::parts::compare_turned`: proved in specs/Ordered. Assumes nothing.
use Rattle.theorems.specs.Ordered.{compare-turned}
use Rattle.theorems.proofs.parts.compare_turned.Statement.{statement}
use Rattle.theorems.proofs.parts.compare_turned.Tie as tie

pub compare_turned_spec : {M : Type 1} → statement M
compare_turned_spec = tie.close (tie.spec (λ c. compare-turned))
