use mathlib.Core.Path.{◌≡◌, refl, sym, ◌∙◌}
use mathlib.Core.Logic.{⊎_elim}
use Prim.Native.Nat.{ℕ, ◌*◌, ◌/◌, ◌<◌, ◌≤◌}
use native.Mathlib.Omega.{arith}
use native.Mathlib.Nat.{not-suc-le-zero}
use lib.Dec.{ltb}
use lib.IntN.{ℤ, pos}
use lib.ListN.{length, length-set, get_or-replicate}
use lib.Seq.{get_or-set_other}
use mir.Syntax.{w32}
use mir.Val.{to_z, of_z}
use mir.Facts.{to_z-of_z}
use borrow.Author.Rules.{sfits_of}
use borrow.Author.Tests.{ltb-true, ltb-false}
use Rattle.laws.specs.Bools.{on-or-off}
use Rattle.laws.specs.Fill.{fill_more}
use Rattle.terms.specs.Prepared.{number_at}
use Rattle.terms.proofs.PastEnd.{number_past}
use Rattle.terms.proofs.vetted.prepared.numbers.Goals as goal

pub loop-i-init : goal.loop-i-init
loop-i-init c = (refl, λ j l. absurd (not-suc-le-zero l), λ j l h. get_or-replicate 256 j (pos 0) (pos 0) h)

pub loop-i-preserved : goal.loop-i-preserved
loop-i-preserved c =
    let a = c.args in
    let x = to_z w32 (of_z w32 c.number_at.result) in
    let w : c.loop-i.i < length c.loop-i.a = omega (arith, c.loop-i.invariant.0) in (
      simp length-set c.loop-i.invariant.0,
      fill_more (pos 0) (λ (j : ℕ) (y : ℤ). y ≡ number_at a.table.now j) c.loop-i.a c.loop-i.i x w c.loop-i.invariant.1
          (to_z-of_z {w = w32} (sfits_of c.number_at.type_inv) ∙ c.number_at.ensures),
      λ j h k. get_or-set_other c.loop-i.a c.loop-i.i j x (pos 0) (λ e. omega (arith, h, e)) ∙ c.loop-i.invariant.2 j (omega (arith, h)) k,
    )

pub returns : goal.returns
returns c =
    let a = c.args in
    let past : (i : ℕ) → c.loop-i.i ≤ i → i < 256 → length a.table.now ≤ 12 * (i / 2) = λ i p h. omega arith in
    record {
      each = λ i h. ⊎_elim
          (λ t. c.loop-i.invariant.1 i (ltb-true i c.loop-i.i t))
          (λ t. let p = ltb-false i c.loop-i.i t in
          c.loop-i.invariant.2 i p h ∙ sym (number_past a.table.now i (past i p h)))
          (on-or-off (ltb i c.loop-i.i));
    }
