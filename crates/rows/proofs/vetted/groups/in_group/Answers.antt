use mathlib.Core.Path.{refl, sym, ap, ◌∙◌}
use mathlib.Core.Bool.{not}
use Prim.Native.Nat.{◌+◌, ◌^◌}
use native.Mathlib.Nat.{div-le_self}
use native.Mathlib.Omega.{arith}
use lib.Count.{count_trailing_zeros}
use lib.ListN.{length}
use borrow.Author.Rules.{rules}
use borrow.Author.Tests.{eq-eqb, ne_eqb}
use Rattle.model.specs.Search.{any_below}
use Rattle.model.specs.Better.{cell}
use Rattle.records.proofs.Signed.{eq-bits}
use Rattle.rows.specs.Group.{differs, equal-in-past, unequal-in, left-none, left-more, equal-in-left, lowest, left-shift, differs-skip, differs-set, none_more}
use Rattle.rows.proofs.vetted.groups.in_group.Goals as goal

pub loop-left-init : goal.loop-left-init
unfolding any_below
loop-left-init c = (search rules, search rules, left-none c.args.group, refl)

pub returns-then-n-at : goal.returns-then-n-at
returns-then-n-at c =
    let a = c.args in
    let v = c.loop-left.invariant in
    let w = lowest 8 c.loop-left.left (omega arith) (omega (arith, c.loop-left.invariant.1)) in
    let t = count_trailing_zeros 8 c.loop-left.left in
    let skip = differs-skip a.group c.loop-left.c t a.x.now a.y.now v.2 w.unset v.3 in
    sym (equal-in-past a.group (c.loop-left.c + t) (length a.x.now) a.x.now a.y.now refl (sym c.requires.same) c.requires.few
    c.if-n-at.true skip)

pub returns-then-x-at : goal.returns-then-x-at
unfolding cell
returns-then-x-at c =
    let a = c.args in
    let w = lowest 8 c.loop-left.left (omega arith) (omega (arith, c.loop-left.invariant.1)) in
    let t = count_trailing_zeros 8 c.loop-left.left in
    let i = c.loop-left.c + t in
    let e =
    eq-bits {a = cell a.x.now i} {b = cell a.y.now i}
    (record { sfits = c.t12-1.given }) (record { sfits = c.t15-1.given }) in
    let d = differs-set a.group c.loop-left.c t a.x.now a.y.now c.loop-left.invariant.2 w.set in
    sym (unequal-in a.group i a.x.now a.y.now (omega (arith, c.requires.few))
    (d ∙ ap not (sym e ∙ ne_eqb _ _ c.if-x-at.true)))

pub loop-left-preserved : goal.loop-left-preserved
unfolding cell
loop-left-preserved c =
    let a = c.args in
    let v = c.loop-left.invariant in
    let w = lowest 8 c.loop-left.left (omega arith) (omega (arith, c.loop-left.invariant.1)) in
    let t = count_trailing_zeros 8 c.loop-left.left in
    let i = c.loop-left.c + t in
    let e =
    eq-bits {a = cell a.x.now i} {b = cell a.y.now i}
    (record { sfits = c.t12-1.given }) (record { sfits = c.t15-1.given }) in
    let d = differs-set a.group c.loop-left.c t a.x.now a.y.now v.2 w.set in
    let skip = differs-skip a.group c.loop-left.c t a.x.now a.y.now v.2 w.unset v.3 in (
      search rules,
      omega (arith, div-le_self c.loop-left.left (2 ^ t), v.1),
      left-more a.group i (left-shift a.group c.loop-left.c v.2 t),
      none_more i (differs a.group a.x.now a.y.now) skip (d ∙ ap not (sym e ∙ eq-eqb _ _ c.if-x-at.false)),
    )

pub returns : goal.returns
returns c =
    let a = c.args in
    let v = c.loop-left.invariant in
    sym (equal-in-left a.group c.loop-left.c a.x.now a.y.now (sym c.loop-left-test.false ∙ v.2) v.3)
