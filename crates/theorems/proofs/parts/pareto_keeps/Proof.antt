-- `theorems::parts::pareto_keeps`: proved in proofs/Equally. Assumes nothing.
use Rattle.theorems.proofs.Equally.{pareto-keeps}
use Rattle.theorems.proofs.parts.pareto_keeps.Statement.{statement}
use Rattle.theorems.proofs.parts.pareto_keeps.Tie as tie

pub pareto_keeps_spec : {M : Type 1} → statement M
pareto_keeps_spec = tie.close (tie.spec (λ c. pareto-keeps))
