-- `theorems::signed::refusal_writes_nothing`: proved in specs/Query of `laws`. Assumes nothing.
use Rattle.laws.specs.Query.{refused-buffer}
use Rattle.theorems.proofs.signed.refusal_writes_nothing.Statement.{statement}
use Rattle.theorems.proofs.signed.refusal_writes_nothing.Tie as tie

pub refusal_writes_nothing_spec : {M : Type 1} → statement M
refusal_writes_nothing_spec = tie.close (tie.spec (λ c. refused-buffer))
