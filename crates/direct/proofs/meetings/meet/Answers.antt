-- `direct::meetings::meet` meets its contract.
use mathlib.Core.Path.{◌∙◌}
use mathlib.Core.Bool.{false≢true}
use native.Mathlib.Omega.{arith}
use Rattle.model.specs.Term.{term_at}
use Rattle.laws.specs.Meetings.{meet-apart, meet-code}
use Rattle.laws.specs.Beaten.{beaten-code}
use Rattle.pairs.proofs.Grouped.{group-first, group-second, keys-apart}
use Rattle.direct.proofs.meetings.meet.Goals as goal

pub returns-then-keys-i : goal.returns-then-keys-i
returns-then-keys-i c =
    let a = c.args in
    let p = c.requires in
    let d = keys-apart p.keyed (term_at a.pairs.now.table.now a.pairs.now.term) a.i a.j p.first p.second c.if-keys-i.true in
    record {
      met = meet-apart _ _ _ _ _ p.turn p.first d.0 d.1;
      beaten = p.beaten;
      lost = λ on. absurd (false≢true on);
    }

pub returns : goal.returns
returns c =
    let p = c.requires in
    let r = c.group_code-c.result in
    let taken = c.args.pairs.now.comparable.taken in
    let e = group-first taken _ _ _ _ c.group_code-c.ensures in
    let f = group-second taken _ _ _ _ c.group_code-c.ensures in
    record {
      met = meet-code _ _ _ _ _ p.turn r p.first p.second (omega arith) c.if-gone-j-ne0.false e f;
      beaten = beaten-code _ _ _ _ _ _ r p.first p.second (omega arith) (omega arith) p.turn.rest c.if-gone-j-ne0.false e p.beaten;
      lost = λ on. f ∙ on;
    }
