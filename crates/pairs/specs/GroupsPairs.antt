-- The outcome of two rows of one run, by their groups.
use Rattle.std.specs.Prelude.{cond, List, ℕ, ℤ}
use Rattle.model.specs.declared.{Outcome.Outcome}
use Rattle.model.specs.Term.{Term}
use Rattle.model.specs.Better.{Row, equal_in}
use Rattle.model.specs.Compare.{outcome}
use Rattle.model.specs.Query.{row_at}

-- The outcome of two rows; unranked where they are in different groups.
unfoldable pub outcome_in : Term → ℕ → Row → Row → Outcome
outcome_in t group x y = cond (equal_in group x y) (outcome t x y) Outcome.Unranked

-- The same of row i and row j of a run.
unfoldable pub group_outcome : Term → ℕ → List ℤ → ℕ → ℕ → ℕ → Outcome
group_outcome t columns rows group i j = outcome_in t group (row_at columns rows i) (row_at columns rows j)
