-- `direct::kept_list::list_kept` meets its contract.
use mathlib.Core.Path.{refl, sym, ap, ◌∙◌}
use Prim.Native.Nat.{ℕ, ◌+◌, ◌<◌}
use native.Mathlib.Omega.{arith}
use lib.ListN.{length, length-set}
use borrow.Author.Tests.{eq-eqb, ne_eqb}
use Rattle.direct.specs.Listing.{count-start, count-pass, count-fail, listed_start, listed-skip, listed-store}
use Rattle.direct.proofs.kept_list.list_kept.Goals as goal
use Rattle.direct.proofs.kept_list.list_kept.Goals.{then-gone-i-eq0, else-gone-i-eq0}

pub loop-i-init : goal.loop-i-init
loop-i-init c = (refl, count-start _, omega arith, listed_start _ _)

pub loop-i-preserved : goal.loop-i-preserved
loop-i-preserved c =
    let v = c.loop-i.invariant in
    let l : c.loop-i.m < length c.loop-i.kept = omega arith in
    elim c.if-gone-i-eq0.branch [
      | then-gone-i-eq0 w ↦ let y = eq-eqb _ 0 w.if-gone-i-eq0.true in (
        ap length w.kept-is ∙ simp length-set v.0,
        w.m-is ∙ ap (λ (x : ℕ). x + 1) v.1 ∙ sym (count-pass _ _ y),
        omega arith,
        rw w.kept-is (listed-store _ _ _ _ v.1 l y v.3),
      )
      | else-gone-i-eq0 w ↦ let y = ne_eqb _ 0 w.if-gone-i-eq0.false in (
        ap length w.kept-is ∙ v.0,
        w.m-is ∙ v.1 ∙ sym (count-fail _ _ y),
        omega arith,
        rw w.kept-is (listed-skip _ _ _ y v.3),
      )
    ]
