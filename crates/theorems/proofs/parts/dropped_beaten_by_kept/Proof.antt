-- `theorems::parts::dropped_beaten_by_kept`: proved in proofs/Dropped. Assumes nothing.
use Rattle.theorems.proofs.Dropped.{dropped-beaten-by-kept}
use Rattle.theorems.proofs.parts.dropped_beaten_by_kept.Statement.{statement}
use Rattle.theorems.proofs.parts.dropped_beaten_by_kept.Tie as tie

pub dropped_beaten_by_kept_spec : {M : Type 1} → statement M
dropped_beaten_by_kept_spec = tie.close (tie.spec (λ c. dropped-beaten-by-kept))
