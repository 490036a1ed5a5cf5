-- `theorems::signed::drops_name_lowest`: proved in proofs/Answered of `laws`. Assumes nothing.
use Rattle.laws.proofs.Answered.{drops-name-lowest}
use Rattle.theorems.proofs.signed.drops_name_lowest.Statement.{statement}
use Rattle.theorems.proofs.signed.drops_name_lowest.Tie as tie

pub drops_name_lowest_spec : {M : Type 1} → statement M
drops_name_lowest_spec = tie.close (tie.spec (λ c. drops-name-lowest))
