use Rattle.std.proofs.Common.{◌≡◌, ◌-◌, sym, ◌∙◌, ap, arith, rules}
use Rattle.model.specs.Record.{nearest_term}
use Rattle.records.proofs.Nearest.{nearest-stop, nearest-skip}
use Rattle.records.proofs.values.nearest_term.Goals as goal

pub returns-then-is_term_at : goal.returns-then-is_term_at
returns-then-is_term_at c =
    let a = c.args in
    record {
      nearest = nearest-stop a.table.now a.k c.loop-i.i (c.loop-i.i - 1) c.loop-i.invariant (omega arith) (sym c.is_term_at.ensures ∙ c.if-is_term_at.true);
      within = search rules;
    }

pub loop-i-preserved : goal.loop-i-preserved
loop-i-preserved c =
    let a = c.args in
    nearest-skip a.table.now a.k c.loop-i.i (c.loop-i.i - 1) c.loop-i.invariant (omega arith) (sym c.is_term_at.ensures ∙ c.if-is_term_at.false)

pub returns : goal.returns
unfolding nearest_term
returns c =
    let z : c.loop-i.i ≡ 0 = omega arith in
    record { nearest = sym (c.loop-i.invariant ∙ ap (nearest_term c.args.table.now) z); within = search rules }
