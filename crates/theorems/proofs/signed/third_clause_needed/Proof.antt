-- `theorems::signed::third_clause_needed`: proved in specs/ThirdClause. Assumes nothing.
use Rattle.theorems.specs.ThirdClause.{third-clause-needed}
use Rattle.theorems.proofs.signed.third_clause_needed.Statement.{statement}
use Rattle.theorems.proofs.signed.third_clause_needed.Tie as tie

pub third_clause_needed_spec : {M : Type 1} → statement M
third_clause_needed_spec = tie.close (tie.spec (λ c. third-clause-needed))
