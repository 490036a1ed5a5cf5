-- `theorems::parts::compare_refuses_none`: proved in specs/Ordered. Assumes nothing.
use Rattle.theorems.specs.Ordered.{compare-refuses-none}
use Rattle.theorems.proofs.parts.compare_refuses_none.Statement.{statement}
use Rattle.theorems.proofs.parts.compare_refuses_none.Tie as tie

pub compare_refuses_none_spec : {M : Type 1} → statement M
compare_refuses_none_spec = tie.close (tie.spec (λ c. compare-refuses-none))
