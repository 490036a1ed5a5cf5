-- `theorems::parts::second_by_group`: proved in proofs/Among. Assumes nothing.
use Rattle.theorems.proofs.Among.{second-by-group}
use Rattle.theorems.proofs.parts.second_by_group.Statement.{statement}
use Rattle.theorems.proofs.parts.second_by_group.Tie as tie

pub second_by_group_spec : {M : Type 1} → statement M
second_by_group_spec = tie.close (tie.spec (λ c. second-by-group))
