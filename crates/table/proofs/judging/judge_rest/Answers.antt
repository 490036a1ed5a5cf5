-- `table::judging::judge_rest` meets its contract.
use mathlib.Core.Path.{◌≡◌, ◌∙◌, sym, ap}
use mathlib.Core.Bool.{false}
use lib.Dec.{eqb}
use borrow.Author.Tests.{ne_eqb}
use Rattle.model.specs.Words.{Verdict}
use Rattle.model.specs.Record.{kind_at}
use Rattle.model.specs.Replies.{refusals, numbered, refusal}
use Rattle.table.specs.Judging.{judge_run, judge_shape}
use Rattle.table.proofs.JudgingLaws.{run_none, shape-none}
use Rattle.table.proofs.judging.judge_rest.Goals as goal

pub returns-then-kind_at : goal.returns-then-kind_at
returns-then-kind_at c =
    let a = c.args.before.now in
    let e : kind_at a.table.now a.k ≡ 0 = sym c.kind_at.ensures ∙ c.if-kind_at.true in
    c.judge_run.ensures
    ∙ ap (λ (v : Verdict). judge_run a.table.now a.k v) (sym (shape-none a.table.now a.k (rw e) (rw e)))

pub returns-then-fails_bounds : goal.returns-then-fails_bounds
unfolding judge_shape refusal numbered refusals
returns-then-fails_bounds c =
    let a = c.args.before.now in
    let off : eqb (kind_at a.table.now a.k) 0 ≡ false = rw (← c.kind_at.ensures) (ne_eqb _ _ c.if-kind_at.false) in
    rw (run_none a.table.now a.k _ off, sym c.fails_bounds.ensures ∙ c.if-fails_bounds.true)

pub returns-then-fails_apart : goal.returns-then-fails_apart
unfolding judge_shape refusal numbered refusals
returns-then-fails_apart c =
    let a = c.args.before.now in
    let off : eqb (kind_at a.table.now a.k) 0 ≡ false = rw (← c.kind_at.ensures) (ne_eqb _ _ c.if-kind_at.false) in
    rw (
      run_none a.table.now a.k _ off,
      sym c.fails_bounds.ensures ∙ c.if-fails_bounds.false,
      sym c.fails_apart.ensures ∙ c.if-fails_apart.true,
    )

pub returns : goal.returns
unfolding judge_shape refusal numbered refusals
returns c =
    let a = c.args.before.now in
    let off : eqb (kind_at a.table.now a.k) 0 ≡ false = rw (← c.kind_at.ensures) (ne_eqb _ _ c.if-kind_at.false) in
    rw (
      run_none a.table.now a.k _ off,
      sym c.fails_bounds.ensures ∙ c.if-fails_bounds.false,
      sym c.fails_apart.ensures ∙ c.if-fails_apart.false,
    )
