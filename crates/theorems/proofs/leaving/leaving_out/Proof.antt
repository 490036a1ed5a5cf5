-- `theorems::leaving::leaving_out`: proved in proofs/LeavingLaws. Assumes nothing.
use Rattle.theorems.proofs.LeavingLaws.{leaving-out}
use Rattle.theorems.proofs.leaving.leaving_out.Statement.{statement}
use Rattle.theorems.proofs.leaving.leaving_out.Tie as tie

pub leaving_out_spec : {M : Type 1} → statement M
leaving_out_spec = tie.close (tie.spec (λ c. leaving-out))
