-- `theorems::leaving::merged_keeps`: proved in proofs/Merged. Assumes nothing.
use Rattle.theorems.proofs.Merged.{merged_keeps}
use Rattle.theorems.proofs.leaving.merged_keeps.Statement.{statement}
use Rattle.theorems.proofs.leaving.merged_keeps.Tie as tie

pub merged_keeps_spec : {M : Type 1} → statement M
merged_keeps_spec = tie.close (tie.spec (λ c. merged_keeps))
