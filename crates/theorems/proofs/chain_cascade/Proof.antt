-- `theorems::chain_cascade`: proved in proofs/Cascade. Assumes nothing.
use Rattle.theorems.proofs.Cascade.{chain-keeps-equal, chain-prior}
use Rattle.theorems.proofs.chain_cascade.Statement.{statement}
use Rattle.theorems.proofs.chain_cascade.Tie as tie

pub chain_cascade_spec : {M : Type 1} → statement M
chain_cascade_spec = tie.close (tie.spec (λ c. (chain-keeps-equal, chain-prior)))
