-- `theorems::parts::parts_alone`: proved in proofs/Alone. Assumes nothing.
use Rattle.theorems.proofs.Alone.{parts-alone}
use Rattle.theorems.proofs.parts.parts_alone.Statement.{statement}
use Rattle.theorems.proofs.parts.parts_alone.Tie as tie

pub parts_alone_spec : {M : Type 1} → statement M
parts_alone_spec = tie.close (tie.spec (λ c. parts-alone))
