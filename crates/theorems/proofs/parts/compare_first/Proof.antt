-- `theorems::parts::compare_first`: proved in specs/Ordered. Assumes nothing.
use Rattle.theorems.specs.Ordered.{compare-first}
use Rattle.theorems.proofs.parts.compare_first.Statement.{statement}
use Rattle.theorems.proofs.parts.compare_first.Tie as tie

pub compare_first_spec : {M : Type 1} → statement M
compare_first_spec = tie.close (tie.spec (λ c. compare-first))
