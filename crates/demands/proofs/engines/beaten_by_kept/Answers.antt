-- `demands::engines::beaten_by_kept` meets its contract, by those of the two engines.
use Rattle.demands.proofs.Witnesses.{replied-answers, both-witnessed}
use Rattle.demands.proofs.engines.beaten_by_kept.Goals as goal

pub reply_witnessed-witnessed-requires : goal.reply_witnessed-witnessed-requires
reply_witnessed-witnessed-requires c =
    let a = c.args in
    replied-answers a.table.now a.columns a.rows.now a.term a.group a.answers.now _
    c.query_direct-direct.result c.query_direct-direct.ensures.reply c.query_direct-direct.ensures.buffer

pub reply_witnessed-requires : goal.reply_witnessed-requires
reply_witnessed-requires c =
    let a = c.args in
    replied-answers a.table.now a.columns a.rows.now a.term a.group
    c.query_direct-direct.new.answers _
    c.query_by_parts-parts.result c.query_by_parts-parts.ensures.reply c.query_by_parts-parts.ensures.buffer

pub returns : goal.returns
returns c =
    let a = c.args in
    let both =
    both-witnessed a.table.now a.columns a.rows.now a.term a.group a.answers.now
    c.query_direct-direct.new.answers _ c.query_direct-direct.result c.query_by_parts-parts.result
    c.reply_witnessed-witnessed.result c.reply_witnessed.result
    c.query_direct-direct.ensures.reply c.query_direct-direct.ensures.buffer c.reply_witnessed-witnessed.ensures
    c.query_by_parts-parts.ensures.reply c.query_by_parts-parts.ensures.buffer c.reply_witnessed.ensures in (
      both.0,
      both.1,
      λ ok low is rows_fit group-fits long. both.2
          (record {
            of_term = record { is_accepted = ok; below = low; is_record = is };
            rows_fit = rows_fit;
            group_fits = group-fits;
          })
          long,
    )
