-- `demands::engines::engines_agree` meets its contract, by those of the two engines.
use Rattle.std.proofs.Common.{rules}
use Rattle.demands.proofs.Agreed.{agreed}
use Rattle.demands.proofs.engines.engines_agree.Goals as goal

pub returns : goal.returns
returns c =
    let a = c.args in
    agreed a.table.now a.columns a.rows.now a.term a.group a.a.now a.b.now _ _
    c.query_direct-direct.result c.query_by_parts-parts.result
    c.query_direct-direct.ensures.reply c.query_direct-direct.ensures.buffer
    c.query_by_parts-parts.ensures.reply c.query_by_parts-parts.ensures.buffer
    c.eq.result c.eq-2.result (search rules) (search rules)
