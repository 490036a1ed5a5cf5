-- `theorems::some_value_is_some`: proved in specs/Values of `laws`. Assumes nothing.
use Rattle.laws.specs.Values.{some-value}
use Rattle.theorems.proofs.some_value_is_some.Statement.{statement}
use Rattle.theorems.proofs.some_value_is_some.Tie as tie

pub some_value_is_some_spec : {M : Type 1} → statement M
some_value_is_some_spec = tie.close (tie.spec (λ c. some-value))
