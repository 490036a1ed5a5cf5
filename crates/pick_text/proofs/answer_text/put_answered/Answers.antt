-- `pick_text::answer_text::put_answered` meets its contract: Query takes the top over the numbers of the file.
use mathlib.Core.Path.{sym, ◌∙◌}
use native.Mathlib.Omega.{arith}
use lib.Seq.{length-take-le}
use Rattle.pick_text.proofs.Joins.{wider}
use Rattle.pick_text.proofs.Answered.{file-sizes, run-is, not-refused, kept-text}
use Rattle.pick_text.proofs.answer_text.put_answered.Goals as goal

pub slice_bounds-numbers-end : goal.slice_bounds-numbers-end
slice_bounds-numbers-end c =
    let z = file-sizes c.args.rows.now c.requires.whole in
    omega (arith, z.0)

pub slice_bounds-run-end : goal.slice_bounds-run-end
slice_bounds-run-end c =
    let z = file-sizes c.args.rows.now c.requires.whole in
    sym (length-take-le _ _ (omega (arith, z.0)))

pub slice_bounds-answers-end : goal.slice_bounds-answers-end
slice_bounds-answers-end c =
    let z = file-sizes c.args.rows.now c.requires.whole in
    omega (arith, z.0)

pub slice_bounds-put_answer-end : goal.slice_bounds-put_answer-end
slice_bounds-put_answer-end c =
    let z = file-sizes c.args.rows.now c.requires.whole in
    sym (length-take-le _ _ (omega (arith, z.0)))

pub returns-in-Err : goal.returns-in-Err
returns-in-Err c =
    let e = run-is _ _ c.requires.whole c.put_numbers.ensures (omega arith) in
    absurd (not-refused c.args.prefs.now c.args.rows.now c.args.s c.requires.accepted c.requires.whole _
    e _ (omega arith) _
    (sym c.query_by_parts-reply.ensures.reply ∙ c.in-Err.is))

pub returns-in-Ok : goal.returns-in-Ok
returns-in-Ok c =
    let e = run-is _ _ c.requires.whole c.put_numbers.ensures (omega arith) in
    let t = kept-text c.args.prefs.now c.args.rows.now c.args.s c.requires.accepted c.requires.whole _
    e _ (omega arith) _
    (sym c.query_by_parts-reply.ensures.reply ∙ c.in-Ok.is) c.query_by_parts-reply.new.answers
    c.query_by_parts-reply.ensures.buffer (omega arith) in
    wider c.put_answer.ensures t (omega arith)
