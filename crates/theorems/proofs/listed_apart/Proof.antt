-- `theorems::listed_apart`: proved in specs/Listed of `laws`. Assumes nothing.
use Rattle.laws.specs.Listed.{listed-apart, listed-check-apart, listed-compare-apart, listed-query-apart}
use Rattle.laws.specs.Listed.{listed-perfect-apart}
use Rattle.theorems.proofs.listed_apart.Statement.{statement}
use Rattle.theorems.proofs.listed_apart.Tie as tie

pub listed_apart_spec : {M : Type 1} → statement M
listed_apart_spec =
    tie.close (tie.spec (λ c. (listed-apart, listed-check-apart, listed-compare-apart, listed-query-apart, listed-perfect-apart)))
