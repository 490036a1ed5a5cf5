-- `theorems::signed::keeps_is_unbeaten`: proved in proofs/Answered of `laws`. Assumes nothing.
use Rattle.laws.proofs.Answered.{keeps-unbeaten}
use Rattle.theorems.proofs.signed.keeps_is_unbeaten.Statement.{statement}
use Rattle.theorems.proofs.signed.keeps_is_unbeaten.Tie as tie

pub keeps_is_unbeaten_spec : {M : Type 1} → statement M
keeps_is_unbeaten_spec = tie.close (tie.spec (λ c. keeps-unbeaten))
