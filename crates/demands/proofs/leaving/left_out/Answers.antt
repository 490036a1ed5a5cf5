-- `demands::leaving::left_out` meets its contract, by those of the two engines.
use mathlib.Core.Path.{◌∙◌}
use mathlib.Core.Bool.{false}
use native.Mathlib.Omega.{arith}
use lib.ListN.{length-replicate}
use Rattle.model.specs.Query.{row_count}
use Rattle.demands.specs.Leaving.{marked, left_out, left_out_buffer}
use Rattle.demands.proofs.Witnesses.{replied-answers}
use Rattle.demands.proofs.Marked.{marks-spared}
use Rattle.demands.proofs.Again.{said-refused, said-kept}
use Rattle.demands.proofs.LeftOut.{left-out-holds}
use Rattle.demands.proofs.leaving.left_out.Goals as goal

pub nonzero_div-rows : goal.nonzero_div-rows
nonzero_div-rows c =
    let a = c.args in
    let n =
    replied-answers a.table.now a.columns a.rows.now a.term a.group a.answers.now _
    c.query_direct-whole.result c.query_direct-whole.ensures.reply c.query_direct-whole.ensures.buffer c.in-Ok.total c.in-Ok.is in
    n.some

pub mark_spared-requires : goal.mark_spared-requires
unfolding row_count
mark_spared-requires c =
    let a = c.args in
    let n =
    replied-answers a.table.now a.columns a.rows.now a.term a.group a.answers.now _
    c.query_direct-whole.result c.query_direct-whole.ensures.reply c.query_direct-whole.ensures.buffer c.in-Ok.total c.in-Ok.is in
    record { long = n.long; few = omega (arith, n.most); room = length-replicate 1024 false }

pub queried_again-requires : goal.queried_again-requires
queried_again-requires c =
    let a = c.args in
    replied-answers a.table.now a.columns a.rows.now a.term a.group a.answers.now _
    c.query_direct-whole.result c.query_direct-whole.ensures.reply c.query_direct-whole.ensures.buffer c.in-Ok.total c.in-Ok.is

pub returns-in-Err : goal.returns-in-Err
unfolding left_out left_out_buffer
returns-in-Err c =
    let a = c.args in
    let e = c.query_direct-whole.ensures in
    let said =
    said-refused a.table.now a.columns a.rows.now a.term a.group a.answers.now a.again.now
    _ c.query_direct-whole.result e.reply e.buffer c.in-Err.field-0 c.in-Err.is _ _ in (
      said.0,
      e.buffer,
      said.1,
      λ ok low is rows_fit group-fits long room. said.0
          ∙ left-out-holds a.table.now a.columns a.rows.now a.term a.group a.out.now
          a.answers.now a.again.now
          (record {
            of_term = record { is_accepted = ok; below = low; is_record = is };
            rows_fit = rows_fit;
            group_fits = group-fits;
          })
          long room,
    )

pub returns-in-Ok : goal.returns-in-Ok
unfolding left_out left_out_buffer row_count
returns-in-Ok c =
    let a = c.args in
    let e = c.query_direct-whole.ensures in
    let said =
    said-kept a.table.now a.columns a.rows.now a.term a.group a.answers.now a.again.now _
    c.query_direct-whole.result e.reply e.buffer (marked _) _
    (marks-spared a.table.now a.columns a.rows.now a.term a.group a.answers.now _ a.out.now
    _ _ _ e.buffer c.mark_spared.ensures.0)
    c.in-Ok.total c.in-Ok.is c.queried_again.result _ c.queried_again.ensures.0 c.queried_again.ensures.1 in (
      said.0,
      e.buffer,
      said.1,
      λ ok low is rows_fit group-fits long space. said.0
          ∙ left-out-holds a.table.now a.columns a.rows.now a.term a.group a.out.now
          a.answers.now a.again.now
          (record {
            of_term = record { is_accepted = ok; below = low; is_record = is };
            rows_fit = rows_fit;
            group_fits = group-fits;
          })
          long space,
    )
