use mathlib.Core.Path.{◌≡◌, refl, ◌∙◌}
use Prim.Native.Nat.{◌<◌}
use native.Mathlib.Omega.{arith}
use lib.ListN.{length, get_or, length-set}
use Rattle.model.specs.Bytes.{byte_at}
use Rattle.laws.specs.Records.{Bytes}
use Rattle.terms.specs.Columns.{mask_below}
use Rattle.terms.proofs.MaskLoop.{column-unnumbered, mask-unnumbered, mask-same, masks-none, masks-more}
use Rattle.terms.proofs.vetted.columns.masks.Goals as goal

pub loop-i-init : goal.loop-i-init
loop-i-init c = (refl, masks-none _)

pub mask_of-requires : goal.mask_of-requires
mask_of-requires c =
    rw (c.unnumbered.ensures, column-unnumbered c.args.table.now 8 c.loop-i.i) (c.requires.each c.loop-i.i (omega arith))

pub loop-i-preserved : goal.loop-i-preserved
unfolding byte_at
loop-i-preserved c =
    let a = c.args in
    let bytes : Bytes a.table.now = λ i. omega (arith, c.type_inv.table i) in
    let w : c.loop-i.i < length c.loop-i.a = omega (arith, c.requires.most, c.loop-i.invariant.0) in (
      simp length-set c.loop-i.invariant.0,
      masks-more a.table.now c.loop-i.a c.loop-i.i c.mask_of.result w c.loop-i.invariant.1 (c.mask_of.ensures ∙ rw c.unnumbered.ensures (mask-unnumbered a.table.now c.loop-i.i (λ k. get_or c.loop-i.a k 0)))
          (mask-same a.table.now bytes c.loop-i.i (λ k. get_or c.loop-i.a k 0) (mask_below a.table.now c.loop-i.i) c.loop-i.invariant.1),
    )

pub returns : goal.returns
returns c =
    let a = c.args in
    let e : c.loop-i.i ≡ a.m = omega arith in
    rw e at c.loop-i.invariant.1
