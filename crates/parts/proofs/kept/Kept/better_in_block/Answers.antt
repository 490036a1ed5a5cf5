-- `parts::kept::Kept::better_in_block` meets its contract: a row is kept and beats row i where a lit lane has code 2.
use mathlib.Core.Path.{sym, ◌∙◌}
use Rattle.laws.specs.Search.{none-e}
use Rattle.blocks.specs.Hits.{ready-hits, ready-dark}
use Rattle.parts.proofs.InBlock.{dark-none, hits-lowest, hits-none}
use Rattle.parts.proofs.kept.Kept.better_in_block.Goals as goal

pub returns-then-any_hit : goal.returns-then-any_hit
returns-then-any_hit c =
    let q = c.args.self.now in
    let h = ready-hits q.of.ready c.free_alive.ensures c.block_codes.ensures in
    hits-lowest _ _ _ _ _ q.settled _ _ _ h _ c.lowest_hit.ensures

pub returns-else-any_hit : goal.returns-else-any_hit
returns-else-any_hit c =
    let q = c.args.self.now in
    let h = ready-hits q.of.ready c.free_alive.ensures c.block_codes.ensures in
    hits-none _ _ _ _ _ q.settled _ _ _ h (none-e 64 _ (sym c.any_hit.ensures ∙ c.if-any_hit.false))

pub returns-else-any_lit : goal.returns-else-any_lit
returns-else-any_lit c =
    let q = c.args.self.now in
    dark-none _ _ _ _ _ q.settled (ready-dark q.of.ready c.free_alive.ensures (sym c.any_lit.ensures ∙ c.if-any_lit.false))
