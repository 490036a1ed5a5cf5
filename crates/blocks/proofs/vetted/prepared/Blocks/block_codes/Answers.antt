use Prim.Native.Nat.{◌≤◌}
use native.Mathlib.Omega.{arith}
use Rattle.blocks.specs.Coded.{coded_none, coded-unmarked, coded-next, term-below, first-term, next-term, next-is}
use Rattle.blocks.proofs.Known.{lanes-none, lanes-silent, lanes-told, lanes_next, asked-ended, asked-all}
use Rattle.blocks.proofs.vetted.prepared.Blocks.block_codes.Goals as goal
use Rattle.blocks.proofs.vetted.prepared.Blocks.block_codes.Goals.{then-self-at+else-tell, else-self-at}
use Rattle.blocks.proofs.vetted.prepared.Blocks.block_codes.Goals.{else-loop-k-test, then-loop-k-test+then-self-at+then-tell}

pub loop-k-init : goal.loop-k-init
loop-k-init c =
    let ready = c.args.self.now.ready in
    (λ l. first-term ready, coded_none, lanes-none ready.exiting c.start_known.ensures)

pub loop-k-preserved : goal.loop-k-preserved
loop-k-preserved c =
    let ready = c.args.self.now.ready in
    let v = c.loop-k.invariant in
    let before : c.loop-k.k ≤ c.args.self.now.term = omega arith in
    let t = v.0 before in
    let next = next-term ready t before in
    let e = ready.exiting in
    elim c.if-self-at.branch [
      | then-self-at+else-tell m ↦ (
        λ most. next-is ready t before most,
        rw m.codes-is (coded-next next m.record_codes.ensures),
        rw m.known-is (lanes_next e next (lanes-told e v.2 m.if-self-at.true t m.record_codes.ensures m.tell.ensures)),
      )
      | else-self-at u ↦ (
        λ most. next-is ready t before most,
        rw u.codes-is (coded-next next (coded-unmarked u.if-self-at.false v.1)),
        rw u.known-is (lanes_next e next (lanes-silent e v.2 (ready.marked.telling c.loop-k.k (omega (arith, term-below ready)) u.if-self-at.false))),
      )
    ]

pub returns : goal.returns
returns c =
    let v = c.loop-k.invariant in
    let e = c.args.self.now.ready.exiting in
    elim c.loop-k-test.branch [
      | else-loop-k-test w ↦ asked-all e v.2 (omega arith) (rw w.known-is at c.put_known.ensures)
      | then-loop-k-test+then-self-at+then-tell w ↦ (
          let told = lanes-told e v.2 w.if-self-at.true (v.0 w.loop-k-test.true) w.record_codes.ensures w.tell.ensures in
          asked-ended e told (w.tell.ensures.ended w.if-tell.true) (rw w.known-is at c.put_known.ensures)
          )
    ]
