-- `theorems::signed::query_refuses_none`: proved in proofs/Joined. Assumes nothing.
use Rattle.theorems.proofs.Joined.{query-refuses-none}
use Rattle.theorems.proofs.signed.query_refuses_none.Statement.{statement}
use Rattle.theorems.proofs.signed.query_refuses_none.Tie as tie

pub query_refuses_none_spec : {M : Type 1} → statement M
query_refuses_none_spec = tie.close (tie.spec (λ c. query-refuses-none))
