-- `table::chains::judge_run` meets its contract.
use mathlib.Core.Path.{sym, ◌∙◌}
use Prim.Native.Nat.{◌-◌, ◌+◌, ◌≤◌}
use native.Mathlib.Omega.{arith}
use borrow.Author.Tests.{le-leb}
use Rattle.model.specs.Record.{nearest_term}
use Rattle.model.specs.Replies.{refusals, numbered, refusal}
use Rattle.laws.specs.Runs.{nearest-bound}
use Rattle.table.specs.Judging.{judge_run}
use Rattle.table.proofs.RunsLaws.{values, crowd-is, run-few}
use Rattle.table.proofs.chains.judge_run.Goals as goal

pub overflow_sub-k : goal.overflow_sub-k
overflow_sub-k c =
    let h = nearest-bound c.args.table.now c.args.k in
    omega (arith, c.requires.1, h)

pub returns-then-k-near-gt-MOST_VALUES : goal.returns-then-k-near-gt-MOST_VALUES
unfolding judge_run refusal numbered refusals
returns-then-k-near-gt-MOST_VALUES c =
    let t = c.args.table.now in
    let e = c.requires.1 in
    rw (crowd-is t c.args.columns c.args.k c.requires.0, le-leb 16 (c.args.k - nearest_term t c.args.k - 1) (omega (arith, e, c.if-k-near-gt-MOST_VALUES.true)))

pub fails_clash-requires : goal.fails_clash-requires
fails_clash-requires c =
    let t = c.args.table.now in
    let e = c.requires.1 in
    let few : c.args.k ≤ nearest_term t c.args.k + 16 = omega (arith, e, c.if-k-near-gt-MOST_VALUES.false) in
    rw e (values t c.args.columns c.args.k c.requires.0 few)

pub returns-then-fails_clash : goal.returns-then-fails_clash
unfolding refusal numbered refusals
returns-then-fails_clash c =
    let e = c.requires.1 in
    let clash-few : c.args.k ≤ nearest_term c.args.table.now c.args.k + 16 = omega (arith, e, c.if-k-near-gt-MOST_VALUES.false) in
    rw (
      run-few c.args.table.now c.args.columns c.args.k c.requires.0 clash-few,
      rw e at (sym c.fails_clash.ensures ∙ c.if-fails_clash.true),
    )

pub fails_loop-requires : goal.fails_loop-requires
fails_loop-requires c =
    let t = c.args.table.now in
    let e = c.requires.1 in
    let h : c.args.k ≤ nearest_term t c.args.k + 16 = omega (arith, e, c.if-k-near-gt-MOST_VALUES.false) in
    rw e (values t c.args.columns c.args.k c.requires.0 h, h, c.requires.0.fielded.reached.few)

pub returns-then-fails_loop : goal.returns-then-fails_loop
unfolding refusal numbered refusals
returns-then-fails_loop c =
    let e = c.requires.1 in
    let loop-few : c.args.k ≤ nearest_term c.args.table.now c.args.k + 16 = omega (arith, e, c.if-k-near-gt-MOST_VALUES.false) in
    rw (
      run-few c.args.table.now c.args.columns c.args.k c.requires.0 loop-few,
      rw e at (sym c.fails_clash.ensures ∙ c.if-fails_clash.false),
      rw e at (sym c.fails_loop.ensures ∙ c.if-fails_loop.true),
    )

pub returns : goal.returns
returns c =
    let e = c.requires.1 in
    let end-few : c.args.k ≤ nearest_term c.args.table.now c.args.k + 16 = omega (arith, e, c.if-k-near-gt-MOST_VALUES.false) in
    rw (
      run-few c.args.table.now c.args.columns c.args.k c.requires.0 end-few,
      rw e at (sym c.fails_clash.ensures ∙ c.if-fails_clash.false),
      rw e at (sym c.fails_loop.ensures ∙ c.if-fails_loop.false),
    )
