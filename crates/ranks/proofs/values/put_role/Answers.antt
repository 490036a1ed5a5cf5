use mathlib.Core.Path.{refl, ◌∙◌}
use Prim.Native.Nat.{◌*◌}
use native.Mathlib.Omega.{arith}
use lib.IntN.{pos}
use lib.ListN.{get_or}
use mir.Syntax.{w32}
use mir.Facts.{to_z-of_z}
use borrow.Author.Rules.{sfits_of}
use Rattle.ranks.proofs.Named.{kept-all, then_put, role-none, role-put, role-kept}
use Rattle.ranks.proofs.values.put_role.Goals.{then-p_at-role, else-p_at-role}
use Rattle.ranks.proofs.values.put_role.Goals as goal

pub loop-i-init : goal.loop-i-init
loop-i-init c =
    let run = c.args.run.now in
    kept-all _ (λ x r. role-none run.of.table.now run.k c.args.role _ x r)

pub loop-i-preserved : goal.loop-i-preserved
loop-i-preserved c =
    let run = c.args.run.now in
    let i = c.loop-i.i in
    let is = run.values.each i (omega (arith, c.loop-i.auto.i)) c.loop-i-test.true in
    elim c.if-p_at-role.branch [
      | then-p_at-role w ↦
          let read = to_z-of_z {w = w32} {z = get_or run.of.numbers.now (2 * i) (pos 0)} (sfits_of w.put_equal-arg-1.given) in
          rw w.ranks-is
          (then_put c.loop-i.invariant w.put_equal.ensures
          (λ x r. role-put run.of.table.now run.k i c.args.role _ (omega (arith, c.loop-i.auto.i)) is c.p_at.ensures w.if-p_at-role.true
          (read ∙ run.of.numbered.each (2 * i) (omega (arith, run.values.last, c.loop-i-test.true))) x r))
      | else-p_at-role w ↦ rw w.ranks-is (then_put c.loop-i.invariant (kept-all (λ x r. r) (λ x r. refl))
          (λ x r. role-kept run.of.table.now run.k i c.args.role _ (omega (arith, c.loop-i.auto.i)) is c.p_at.ensures w.if-p_at-role.false x r))
    ]
