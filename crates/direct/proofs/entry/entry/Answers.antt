-- `direct::entry::entry` meets its contract.
use mathlib.Core.Path.{sym, ◌∙◌}
use borrow.Author.Tests.{eq-eqb, ne_eqb}
use Rattle.laws.specs.Answers.{answer-kept}
use Rattle.direct.proofs.Sought.{answer-lowest, by-lowest}
use Rattle.direct.proofs.entry.entry.Goals as goal

pub returns-then-gone-i-eq0 : goal.returns-then-gone-i-eq0
returns-then-gone-i-eq0 c =
    let p = c.requires in
    sym (answer-kept _ _ _ (sym (p.kept.settled.each _ p.row) ∙ eq-eqb _ 0 c.if-gone-i-eq0.true))

pub returns-then-gone-at-eq0 : goal.returns-then-gone-at-eq0
returns-then-gone-at-eq0 c =
    let p = c.requires in
    let a = c.args in
    answer-lowest _ _ _ _ (sym (p.kept.settled.each _ p.row) ∙ ne_eqb _ 0 c.if-gone-i-eq0.false)
    (by-lowest _ _ _ a.gone.now a.by.now p.kept.settled p.beaten p.row c.if-gone-i-eq0.false c.if-at-i.true c.if-gone-at-eq0.true)

pub returns : goal.returns
returns c =
    let p = c.requires in
    answer-lowest _ _ _ _ (sym (p.kept.settled.each _ p.row) ∙ ne_eqb _ 0 c.if-gone-i-eq0.false) c.first_better.ensures
