use native.Mathlib.Omega.{arith}
use Rattle.laws.specs.Gone.{kept_of}
use Rattle.parts.proofs.Rows.{to_kept, to_known, to_none, to_named}
use Rattle.parts.proofs.kept.Kept.by_rows.Goals as goal
use Rattle.parts.proofs.kept.Kept.by_rows.Goals.{then-self-i-ne0+then-by-i-eq1024+in-Some, then-self-i-ne0+then-by-i-eq1024+in_default, else-self-i-ne0, else-self-i-ne0-via-then-self-i-ne0+else-by-i-eq1024, else-self-i-ne0-via-else-self-i-ne0}

pub loop-i-preserved : goal.loop-i-preserved
loop-i-preserved c =
    let q = c.args.self.now in
    let v = c.loop-i.invariant in
    elim c.if-self-i-ne0.branch [
      | then-self-i-ne0+then-by-i-eq1024+in-Some w ↦ rw w.by-is (to_named _ _ _ _ v (omega arith) w.in-Some.ensures.some)
      | then-self-i-ne0+then-by-i-eq1024+in_default w ↦ rw w.by-is (to_none _ _ _ _ v w.if-by-i-eq1024.true w.in_default.ensures.none)
      | else-self-i-ne0 w ↦ elim w.else-self-i-ne0.branch [
        | else-self-i-ne0-via-then-self-i-ne0+else-by-i-eq1024 w' ↦ rw w.by-is (to_known _ _ _ _ v w'.if-by-i-eq1024.false)
        | else-self-i-ne0-via-else-self-i-ne0 w' ↦ rw w.by-is (to_kept _ _ _ _ v (kept_of _ _ _ _ q.settled c.loop-i-test.true w'.if-self-i-ne0.false))
      ]
    ]
