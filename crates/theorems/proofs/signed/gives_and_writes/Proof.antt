-- `theorems::signed::gives_and_writes`: proved in proofs/Answered of `laws`. Assumes nothing.
use Rattle.laws.proofs.Answered.{gives-and-writes}
use Rattle.theorems.proofs.signed.gives_and_writes.Statement.{statement}
use Rattle.theorems.proofs.signed.gives_and_writes.Tie as tie

pub gives_and_writes_spec : {M : Type 1} → statement M
gives_and_writes_spec = tie.close (tie.spec (λ c. gives-and-writes))
