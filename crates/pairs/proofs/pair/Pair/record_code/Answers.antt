-- `pairs::pair::Pair::record_code` meets its contract.
use mathlib.Core.Path.{◌∙◌}
use Rattle.pairs.proofs.Coded.{other-op, parts_low, joined_is}
use Rattle.pairs.proofs.pair.Pair.record_code.Goals as goal

pub bounds-codes-step : goal.bounds-codes-step
bounds-codes-step c =
    let p = c.args.self.now.of.now.comparable in
    let r = c.requires.record_of in
    (parts_low p r (p.does.each _ _ r.most) (other-op _ c.in_default.not-ByRank c.in_default.not-Places)).0

pub bounds-codes-step-in_default : goal.bounds-codes-step-in_default
bounds-codes-step-in_default c =
    let p = c.args.self.now.of.now.comparable in
    let r = c.requires.record_of in
    (parts_low p r (p.does.each _ _ r.most) (other-op _ c.in_default.not-ByRank c.in_default.not-Places)).1

pub returns-in_default : goal.returns-in_default
returns-in_default c =
    let p = c.args.self.now.of.now.comparable in
    let r = c.requires.record_of in
    c.joined.ensures
    ∙ joined_is p r (p.does.each _ _ r.most) (other-op _ c.in_default.not-ByRank c.in_default.not-Places) _ _ _ c.requires.below
