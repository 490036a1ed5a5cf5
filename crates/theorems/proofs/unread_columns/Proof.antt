-- `theorems::unread_columns`: proved in specs/Unread. Assumes nothing.
use Rattle.theorems.specs.Unread.{unread-columns}
use Rattle.theorems.proofs.unread_columns.Statement.{statement}
use Rattle.theorems.proofs.unread_columns.Tie as tie

pub unread_columns_spec : {M : Type 1} → statement M
unread_columns_spec = tie.close (tie.spec (λ c. unread-columns))
