-- `theorems::accepted_terms`: proved in specs/Accepted and proofs/AcceptedTerms of `laws`. Assumes nothing.
use Rattle.laws.specs.Accepted.{accepted-true}
use Rattle.laws.proofs.AcceptedTerms.{accepted-term}
use Rattle.theorems.proofs.accepted_terms.Statement.{statement}
use Rattle.theorems.proofs.accepted_terms.Tie as tie

pub accepted_terms_spec : {M : Type 1} → statement M
accepted_terms_spec =
    tie.close (tie.spec (λ c. (λ table columns ok. accepted-term table columns ((accepted-true table columns).0 ok))))
