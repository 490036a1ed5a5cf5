-- `parts::kept::Kept::name_block` meets its contract: row i is named for the lit lanes with code 1.
use mathlib.Core.Path.{sym, ◌∙◌}
use Rattle.blocks.specs.Hits.{row_below, ready-hits, ready-dark}
use Rattle.laws.specs.Gone.{kept_of}
use Rattle.parts.proofs.Names.{names-some, names-none, beyond-some}
use Rattle.parts.proofs.kept.Kept.name_block.Goals as goal

pub returns-then-any_lit : goal.returns-then-any_lit
returns-then-any_lit c =
    let s = c.args.self.now in
    let p = c.requires in
    let h = ready-hits s.of.ready c.waiting.ensures c.block_codes.ensures in
    let q = kept_of _ _ _ _ s.settled p.row p.kept in
    let few = row_below s.of.ready _ p.row in
    record {
      naming = names-some _ _ _ _ _ _ s.settled q few p.naming _ _ _ _ h c.name_lanes.ensures;
      beyond = beyond-some _ _ _ _ _ _ s.settled q few p.naming _ _ _ _ h c.name_lanes.ensures p.beyond;
    }

pub returns-else-any_lit : goal.returns-else-any_lit
returns-else-any_lit c =
    let s = c.args.self.now in
    let p = c.requires in
    let d = ready-dark s.of.ready c.waiting.ensures (sym c.any_lit.ensures ∙ c.if-any_lit.false) in
    let q = kept_of _ _ _ _ s.settled p.row p.kept in
    record { naming = names-none _ _ _ _ _ _ s.settled q (row_below s.of.ready _ p.row) p.naming d; beyond = p.beyond }
