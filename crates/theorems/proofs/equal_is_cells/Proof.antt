-- `theorems::equal_is_cells`: proved in specs/Masks of `laws`. Assumes nothing.
use Rattle.laws.specs.Masks.{equal_in-cells}
use Rattle.theorems.proofs.equal_is_cells.Statement.{statement}
use Rattle.theorems.proofs.equal_is_cells.Tie as tie

pub equal_is_cells_spec : {M : Type 1} → statement M
equal_is_cells_spec = tie.close (tie.spec (λ c. equal_in-cells))
