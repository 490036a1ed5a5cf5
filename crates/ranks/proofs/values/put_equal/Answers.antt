use mathlib.Core.Path.{◌≡◌, refl, sym, ◌∙◌}
use mathlib.Core.Logic.{⊎_elim}
use mathlib.Core.Bool.{cond}
use native.Mathlib.Omega.{arith}
use lib.IntN.{pos}
use lib.ListN.{get_or}
use lib.Seq.{get_or-set_same, get_or-set_other}
use mir.Syntax.{w32}
use mir.Val.{to_z}
use mir.Facts.{to_z-of_z}
use borrow.Author.Tests.{eq-eqb, ne_eqb}
use Rattle.laws.specs.Search.{lt-suc-cases}
use Rattle.records.proofs.Signed.{eq-bits}
use Rattle.ranks.specs.Put.{is_number}
use Rattle.ranks.proofs.Named.{put-each}
use Rattle.ranks.proofs.values.put_equal.Goals.{then-cells-j, else-cells-j}
use Rattle.ranks.proofs.values.put_equal.Goals as goal

pub loop-j-preserved : goal.loop-j-preserved
unfolding is_number
loop-j-preserved c =
    let a = c.args in
    let j = c.loop-j.j in
    let v = c.loop-j.invariant in
    let cell = get_or a.cells.now j (pos 0) in
    let same = eq-bits {a = cell} {b = a.u} (record { sfits = c.t13-1.given }) c.ranges.u in
    let stored : to_z w32 c.if-cells-j.rank-bits ≡ cond (is_number a.u cell) a.y (get_or a.ranks.now j (pos 0)) =
    elim c.if-cells-j.branch [
      | then-cells-j w ↦ rw (w.rank-is, to_z-of_z c.ranges.y, sym same ∙ eq-eqb _ _ w.if-cells-j.true) refl
      | else-cells-j w ↦
          let kept = to_z-of_z {w = w32} {z = get_or c.loop-j.ranks j (pos 0)} (record { sfits = w.rank-else-cells-j-1.given }) in
          rw (w.rank-is, kept, v.1 j (omega arith), sym same ∙ ne_eqb _ _ w.if-cells-j.false) refl
    ] in (
      λ h b. ⊎_elim (λ o. get_or-set_other c.loop-j.ranks j h _ (pos 0) (λ q. omega (arith, o, q)) ∙ v.0 h o)
          (λ q. rw (q, get_or-set_same c.loop-j.ranks j _ (pos 0) (omega arith), to_z-of_z c.ranges.u, to_z-of_z c.ranges.y) stored)
          (lt-suc-cases h j (omega (arith, b))),
      λ h b. get_or-set_other c.loop-j.ranks j h _ (pos 0) (λ q. omega (arith, b, q)) ∙ v.1 h (omega (arith, b)),
    )

pub returns : goal.returns
returns c = put-each c.loop-j.auto.ranks (λ j l. rw (to_z-of_z c.ranges.u, to_z-of_z c.ranges.y) at (c.loop-j.invariant.0 j (omega (arith, l))))
