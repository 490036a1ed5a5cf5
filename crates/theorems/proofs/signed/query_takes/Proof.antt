-- `theorems::signed::query_takes`: proved in specs/Taken of `laws`. Assumes nothing.
use Rattle.laws.specs.Taken.{taken-exactly}
use Rattle.theorems.proofs.signed.query_takes.Statement.{statement}
use Rattle.theorems.proofs.signed.query_takes.Tie as tie

pub query_takes_spec : {M : Type 1} → statement M
query_takes_spec = tie.close (tie.spec (λ c. taken-exactly))
