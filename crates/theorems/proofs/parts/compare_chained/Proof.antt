-- `theorems::parts::compare_chained`: proved in specs/Ordered. Assumes nothing.
use Rattle.theorems.specs.Ordered.{compare-chained}
use Rattle.theorems.proofs.parts.compare_chained.Statement.{statement}
use Rattle.theorems.proofs.parts.compare_chained.Tie as tie

pub compare_chained_spec : {M : Type 1} → statement M
compare_chained_spec = tie.close (tie.spec (λ c. compare-chained))
