use Rattle.std.proofs.Common.{◌∙◌, ap, ◌+◌, ◌<◌, length, arith, length-set}
use Rattle.model.specs.Term.{term_at}
use Rattle.model.specs.Compare.{outcome}
use Rattle.laws.specs.Codes.{outcome_of, outcome-of-code}
use Rattle.compare.proofs.OutcomesCoded.{term-below, record-ready, codes-more}
use Rattle.compare.proofs.outcomes.Comparison.outcome.Goals as goal
use Rattle.compare.proofs.outcomes.Comparison.outcome.Goals.{else-loop-k-test, then-loop-k-test+else-k-k-end}

pub record_code-requires : goal.record_code-requires
record_code-requires c =
    let s = c.args.self.now in
    record-ready s.of.table.now s.of.numbers.now s.ends.now s.reach.now s.term s.first.now s.second.now s.ready c.loop-k.k (omega arith)

pub loop-k-preserved : goal.loop-k-preserved
loop-k-preserved c =
    let s = c.args.self.now in
    let t = s.of.table.now in
    let x = s.first.now in
    let y = s.second.now in
    let k = c.loop-k.k in
    let i = c.loop-k.invariant in
    let l : k < length c.loop-k.codes = omega (arith, i.0, term-below t s.term x y s.ready.asked) in (
      simp length-set i.0,
      codes-more t s.of.numbers.now s.ends.now s.reach.now s.term x y s.ready k (omega arith) c.loop-k.codes i.1 c.record_code.result l c.record_code.ensures,
    )

pub returns : goal.returns
returns c =
    let s = c.args.self.now in
    let t = s.of.table.now in
    let x = s.first.now in
    let y = s.second.now in
    let k = c.loop-k.k in
    let i = c.loop-k.invariant in
    let l : k < length c.loop-k.codes = omega (arith, i.0, term-below t s.term x y s.ready.asked) in
    c.outcome_of.ensures
    ∙ ap outcome_of (elim c.loop-k-test.branch [
      | else-loop-k-test w ↦ absurd (omega arith)
      | then-loop-k-test+else-k-k-end w ↦
          let last : s.term < k + 1 = omega arith in
          rw w.codes-is (codes-more t s.of.numbers.now s.ends.now s.reach.now s.term x y s.ready k (omega arith) c.loop-k.codes i.1 w.record_code.result l w.record_code.ensures s.term last s.ready.asked.taken.is_record)
    ])
    ∙ outcome-of-code (outcome (term_at t s.term) x y)
