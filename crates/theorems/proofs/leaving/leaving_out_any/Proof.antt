-- `theorems::leaving::leaving_out_any`: proved in proofs/LeavingLaws. Assumes nothing.
use Rattle.theorems.proofs.LeavingLaws.{left-out-of}
use Rattle.theorems.proofs.leaving.leaving_out_any.Statement.{statement}
use Rattle.theorems.proofs.leaving.leaving_out_any.Tie as tie

pub leaving_out_any_spec : {M : Type 1} → statement M
leaving_out_any_spec = tie.close (tie.spec (λ c. left-out-of))
