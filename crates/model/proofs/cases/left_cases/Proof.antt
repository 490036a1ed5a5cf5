-- `model::cases::left_cases`: every case computes to what it expects.
-- Assumes nothing.
use mathlib.Core.Path.{refl}
use Rattle.model.specs.cases.Opened.{opened}
use Rattle.model.specs.cases.Case.{AllGiven}
use Rattle.model.specs.cases.RowsLeft.{runs, left_out, merges, rows_left}
use Rattle.model.proofs.cases.left_cases.Statement.{statement}
use Rattle.model.proofs.cases.left_cases.Tie as tie

all-given : AllGiven rows_left
unfolding opened rows_left runs merges left_out
all-given = refl

pub left_cases_spec : {M : Type 1} → statement M
left_cases_spec = tie.close (tie.spec (λ c. all-given))
