-- `demands::catalogues::merged` meets its contract, by those of the two engines.
use mathlib.Core.Path.{◌∙◌, ap}
use mathlib.Core.Bool.{false}
use Prim.Native.Nat.{ℕ}
use lib.ListN.{length-replicate}
use Rattle.model.specs.Query.{row_count}
use Rattle.demands.specs.Leaving.{marked, first_count, kept_by_split, merges, merges_buffer}
use Rattle.demands.proofs.Witnesses.{replied-answers}
use Rattle.demands.proofs.Again.{said-refused, said-kept}
use Rattle.demands.proofs.LeftOut.{min-is, first-within, merges-holds}
use Rattle.demands.proofs.catalogues.merged.Goals as goal

pub nonzero_div-n : goal.nonzero_div-n
nonzero_div-n c =
    let a = c.args in
    let n =
    replied-answers a.table.now a.columns a.rows.now a.term a.group a.answers.now _
    c.query_direct-whole.result c.query_direct-whole.ensures.reply c.query_direct-whole.ensures.buffer c.in-Ok.total c.in-Ok.is in
    n.some

pub mark_apart-requires : goal.mark_apart-requires
unfolding row_count first_count
mark_apart-requires c =
    let a = c.args in
    let n =
    replied-answers a.table.now a.columns a.rows.now a.term a.group a.answers.now _
    c.query_direct-whole.result c.query_direct-whole.ensures.reply c.query_direct-whole.ensures.buffer c.in-Ok.total c.in-Ok.is in (
      record { few = n.few; run = n.run; most = n.most },
      rw (c.min-first.ensures ∙ min-is a.split _) (first-within a.columns a.rows.now a.split),
      length-replicate 1024 false,
    )

pub queried_again-requires : goal.queried_again-requires
queried_again-requires c =
    let a = c.args in
    replied-answers a.table.now a.columns a.rows.now a.term a.group a.answers.now _
    c.query_direct-whole.result c.query_direct-whole.ensures.reply c.query_direct-whole.ensures.buffer c.in-Ok.total c.in-Ok.is

pub returns-in-Err : goal.returns-in-Err
unfolding merges merges_buffer
returns-in-Err c =
    let a = c.args in
    let e = c.query_direct-whole.ensures in
    let said =
    said-refused a.table.now a.columns a.rows.now a.term a.group a.answers.now a.again.now
    _ c.query_direct-whole.result e.reply e.buffer c.in-Err.field-0 c.in-Err.is _ _ in (
      said.0,
      e.buffer,
      said.1,
      λ ok low is rows_fit group-fits long room. said.0
          ∙ merges-holds a.table.now a.columns a.rows.now a.split a.term a.group
          a.answers.now a.again.now
          (record {
            of_term = record { is_accepted = ok; below = low; is_record = is };
            rows_fit = rows_fit;
            group_fits = group-fits;
          })
          long room,
    )

pub returns-in-Ok : goal.returns-in-Ok
unfolding merges merges_buffer first_count row_count
returns-in-Ok c =
    let a = c.args in
    let e = c.query_direct-whole.ensures in
    let said =
    said-kept a.table.now a.columns a.rows.now a.term a.group a.answers.now a.again.now _
    c.query_direct-whole.result e.reply e.buffer (marked _) _
    (λ i h. c.mark_apart.ensures i h
    ∙ ap (λ (k : ℕ). kept_by_split a.table.now a.columns a.rows.now k a.term a.group i)
    (c.min-first.ensures ∙ min-is a.split _))
    c.in-Ok.total c.in-Ok.is c.queried_again.result _ c.queried_again.ensures.0 c.queried_again.ensures.1 in (
      said.0,
      e.buffer,
      said.1,
      λ ok low is rows_fit group-fits long space. said.0
          ∙ merges-holds a.table.now a.columns a.rows.now a.split a.term a.group
          a.answers.now a.again.now
          (record {
            of_term = record { is_accepted = ok; below = low; is_record = is };
            rows_fit = rows_fit;
            group_fits = group-fits;
          })
          long space,
    )
