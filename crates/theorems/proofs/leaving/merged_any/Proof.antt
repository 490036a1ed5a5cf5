-- `theorems::leaving::merged_any`: proved in proofs/LeavingLaws, and in specs/Catalogues of `laws`. Assumes nothing.
use Rattle.laws.specs.Catalogues.{merge-all}
use Rattle.theorems.proofs.LeavingLaws.{merged-of}
use Rattle.theorems.proofs.leaving.merged_any.Statement.{statement}
use Rattle.theorems.proofs.leaving.merged_any.Tie as tie

pub merged_any_spec : {M : Type 1} → statement M
merged_any_spec = tie.close (tie.spec (λ c. (merged-of, merge-all)))
