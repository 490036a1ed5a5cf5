-- `theorems::perfect_is_all`: proved in specs/Perfect of `laws`. Assumes nothing.
use Rattle.laws.specs.Perfect.{perfect-all}
use Rattle.theorems.proofs.perfect_is_all.Statement.{statement}
use Rattle.theorems.proofs.perfect_is_all.Tie as tie

pub perfect_is_all_spec : {M : Type 1} → statement M
perfect_is_all_spec = tie.close (tie.spec (λ c. perfect-all))
