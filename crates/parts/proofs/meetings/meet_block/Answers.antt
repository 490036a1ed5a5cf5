-- `parts::meetings::meet_block` meets its contract: a row is gone that row i beats, and row i is beaten where
-- a lit lane has code 2.
use mathlib.Core.Path.{sym, ◌∙◌}
use Rattle.blocks.specs.Hits.{ready-hits, ready-dark}
use Rattle.blocks.specs.Meets.{meets-some, meets-none, firsts-some, above-some}
use Rattle.parts.proofs.meetings.meet_block.Goals as goal

pub returns-then-any_lit : goal.returns-then-any_lit
returns-then-any_lit c =
    let p = c.requires in
    let h = ready-hits c.args.blocks.now.ready c.rivals_alive.ensures c.block_codes.ensures in
    let g = c.gone_lanes.ensures in
    record {
      met = meets-some _ _ _ _ _ p.row p.turn _ _ _ _ h g c.any_hit.ensures;
      above = above-some _ _ _ _ _ p.row p.turn _ _ _ _ h g p.above;
      firsts = firsts-some _ _ _ _ _ p.row p.turn _ _ _ _ h g _ _ c.name_hits.ensures p.firsts;
    }

pub returns-clause-met : goal.returns-clause-met
returns-clause-met c =
    let p = c.requires in
    meets-none _ _ _ _ _ p.row p.turn (ready-dark c.args.blocks.now.ready c.rivals_alive.ensures (sym c.any_lit.ensures ∙ c.if-any_lit.false))
