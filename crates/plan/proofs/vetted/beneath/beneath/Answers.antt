use mathlib.Core.Path.{◌≡◌, sym, ◌∙◌}
use Prim.Native.Nat.{◌+◌, ◌-◌}
use native.Mathlib.Omega.{arith}
use borrow.Author.Tests.{not-false}
use Rattle.plan.proofs.Bits.{nothing-is}
use Rattle.plan.proofs.BeneathLaws.{parts_in, marked_start, unmarked-same, marked-more}
use Rattle.plan.proofs.vetted.beneath.beneath.Goals as goal

pub loop-k-init : goal.loop-k-init
loop-k-init c =
    let all : c.loop-i.i ≡ 128 = omega arith in
    marked_start c.args.of.now.table.now c.args.term c.args.exits.now c.loop-i.marks
    (record {
      room = c.loop-i.invariant.0;
      each = λ k l off. nothing-is _ (not-false _ (sym (c.loop-i.invariant.1 k (rw all l)) ∙ off));
    })

pub mark_parts-requires : goal.mark_parts-requires
mark_parts-requires c =
    record {
      within = rw c.record.ensures
          (parts_in c.args.of.now.table.now (c.loop-k.k - 1) (omega arith)
          (record { each = λ h d g e. c.requires.low.each h d (omega arith) e }));
    }

pub loop-k-preserved-then-marks-k : goal.loop-k-preserved-then-marks-k
loop-k-preserved-then-marks-k c =
    let back : c.loop-k.k - 1 + 1 ≡ c.loop-k.k = omega arith in
    rw (c.mark_parts.ensures, c.record.ensures)
    (marked-more c.args.of.now.table.now c.args.term (c.loop-k.k - 1) (omega arith) c.requires.few c.requires.low
    c.args.exits.now c.loop-k.marks (rw back c.loop-k.invariant))

pub loop-k-preserved : goal.loop-k-preserved
loop-k-preserved c =
    let back : c.loop-k.k - 1 + 1 ≡ c.loop-k.k = omega arith in
    unmarked-same c.args.of.now.table.now c.args.term (c.loop-k.k - 1) (omega arith) c.requires.few c.requires.low
    c.args.exits.now c.loop-k.marks (rw back c.loop-k.invariant) c.if-marks-k.false

pub returns : goal.returns
returns c = let z : c.loop-k.k ≡ 0 = omega arith in rw z at c.loop-k.invariant
