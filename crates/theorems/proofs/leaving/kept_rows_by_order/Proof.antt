-- `theorems::leaving::kept_rows_by_order`: proved in proofs/LeavingLaws. Assumes nothing.
use Rattle.theorems.proofs.LeavingLaws.{kept-rows-order}
use Rattle.theorems.proofs.leaving.kept_rows_by_order.Statement.{statement}
use Rattle.theorems.proofs.leaving.kept_rows_by_order.Tie as tie

pub kept_rows_by_order_spec : {M : Type 1} → statement M
kept_rows_by_order_spec = tie.close (tie.spec (λ c. kept-rows-order))
