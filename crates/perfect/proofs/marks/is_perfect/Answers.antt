use Rattle.std.proofs.Common.{true, false, ◌+◌, ◌<◌, ◌≤◌, arith, length-set}
use Rattle.model.specs.Bytes.{byte_at}
use Rattle.laws.specs.Records.{Bytes}
use Rattle.perfect.proofs.MarksLaws.{asked-few, marks-more}
use Rattle.perfect.proofs.marks.is_perfect.Goals as goal
use Rattle.perfect.proofs.marks.is_perfect.Goals.{else-loop-k-test, then-loop-k-test+else-k-term}

pub loop-k-preserved : goal.loop-k-preserved
unfolding byte_at
loop-k-preserved c =
    let t = c.args.table.now in
    let row = c.args.row.now in
    let e = c.run_ends-ends in
    let k = c.loop-k.k in
    let i = c.loop-k.invariant in
    let bytes : Bytes t = λ i. omega (arith, c.type_inv.table i) in
    let f = asked-few t c.args.term c.requires in
    let h : k ≤ c.args.term = omega (arith, c.loop-k-test.true) in (
      simp length-set i.0,
      simp length-set i.1,
      marks-more t e.result c.args.term c.requires e.ensures k h c.record-r.result c.record-r.ensures bytes row
          c.record_mark-b.ensures.fits false c.loop-k.best c.loop-k.worst (omega (arith, i.0)) i.2 i.3 c.record_mark-b.result c.record_mark-b.ensures.mark,
      marks-more t e.result c.args.term c.requires e.ensures k h c.record-r.result c.record-r.ensures bytes row
          c.record_mark-w.ensures.fits true c.loop-k.worst c.loop-k.best (omega (arith, i.1)) i.3 i.2 c.record_mark-w.result c.record_mark-w.ensures.mark,
    )

pub returns : goal.returns
unfolding byte_at
returns c =
    let t = c.args.table.now in
    let row = c.args.row.now in
    let e = c.run_ends-ends in
    let k = c.loop-k.k in
    let i = c.loop-k.invariant in
    let bytes : Bytes t = λ i. omega (arith, c.type_inv.table i) in
    let f = asked-few t c.args.term c.requires in
    let h : k ≤ c.args.term = omega arith in
    elim c.loop-k-test.branch [
      | else-loop-k-test w ↦ absurd (omega arith)
      | then-loop-k-test+else-k-term w ↦
          let last : c.args.term < k + 1 = omega arith in
          rw w.best-is
          (marks-more t e.result c.args.term c.requires e.ensures k h w.record-r.result w.record-r.ensures bytes row
          w.record_mark-b.ensures.fits false c.loop-k.best c.loop-k.worst (omega (arith, i.0)) i.2 i.3 w.record_mark-b.result w.record_mark-b.ensures.mark
          c.args.term last c.requires.taken.is_record)
    ]
