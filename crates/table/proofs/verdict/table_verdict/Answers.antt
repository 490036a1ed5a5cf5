-- `table::verdict::table_verdict` meets its contract.
use mathlib.Core.Path.{sym, ◌∙◌}
use native.Mathlib.Omega.{arith}
use Rattle.model.specs.Replies.{refusals, numbered, refusal}
use Rattle.table.proofs.VerdictLaws.{width-ok, length-ok, verdict-steps}
use Rattle.table.proofs.verdict.table_verdict.Goals as goal

pub returns-then-fails_width : goal.returns-then-fails_width
unfolding refusal numbered refusals
returns-then-fails_width c =
    let a = c.args in
    rw (verdict-steps a.table.now a.columns, sym c.fails_width.ensures ∙ c.if-fails_width.true)

pub returns-then-fails_length : goal.returns-then-fails_length
unfolding refusal numbered refusals
returns-then-fails_length c =
    let a = c.args in
    rw (verdict-steps a.table.now a.columns, sym c.fails_width.ensures ∙ c.if-fails_width.false, sym c.fails_length.ensures ∙ c.if-fails_length.true)

pub overflow_cast-n : goal.overflow_cast-n
overflow_cast-n c =
    let a = c.args in
    omega (arith, length-ok a.table.now (sym c.fails_length.ensures ∙ c.if-fails_length.false))

pub overflow_cast-columns : goal.overflow_cast-columns
overflow_cast-columns c =
    let a = c.args in
    omega (arith, width-ok a.columns (sym c.fails_width.ensures ∙ c.if-fails_width.false))

pub judge_records-requires : goal.judge_records-requires
judge_records-requires c =
    let a = c.args in
    record {
      few = length-ok a.table.now (sym c.fails_length.ensures ∙ c.if-fails_length.false);
      narrow = width-ok a.columns (sym c.fails_width.ensures ∙ c.if-fails_width.false);
      whole = omega arith;
    }

pub returns : goal.returns
unfolding refusal numbered refusals
returns c =
    let a = c.args in
    rw (verdict-steps a.table.now a.columns, sym c.fails_width.ensures ∙ c.if-fails_width.false, sym c.fails_length.ensures ∙ c.if-fails_length.false) c.judge_records.ensures
