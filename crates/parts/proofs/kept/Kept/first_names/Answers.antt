use native.Mathlib.Omega.{arith}
use borrow.Author.Tests.{lt-ltb, le-ltb, eq-eqb, ne_eqb}
use Rattle.laws.specs.Writes.{wrote-head}
use Rattle.parts.specs.Entry.{first_name, name_of}
use Rattle.parts.proofs.kept.Kept.first_names.Goals as goal
use Rattle.parts.proofs.kept.Kept.first_names.Goals.{then-at-j+then-self-at-eq0, else-at-j, else-at-j-via-then-at-j+else-self-at-eq0, else-at-j-via-else-at-j}

pub loop-j-preserved : goal.loop-j-preserved
unfolding first_name name_of
loop-j-preserved c =
    wrote-head _ _ _ _ _ c.loop-j.invariant (omega arith) (
    elim c.if-at-j.branch [
      | then-at-j+then-self-at-eq0 w ↦ rw (lt-ltb _ _ w.if-at-j.true, eq-eqb _ _ w.if-self-at-eq0.true) w.by-is
      | else-at-j w ↦ elim w.else-at-j.branch [
        | else-at-j-via-then-at-j+else-self-at-eq0 w' ↦ rw (lt-ltb _ _ w'.if-at-j.true, ne_eqb _ _ w'.if-self-at-eq0.false) w.by-is
        | else-at-j-via-else-at-j w' ↦ rw (le-ltb _ _ w'.if-at-j.false) w.by-is
      ]
    ])
