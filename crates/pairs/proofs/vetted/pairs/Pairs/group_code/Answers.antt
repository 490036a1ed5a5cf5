-- `pairs::vetted::pairs::Pairs::group_code` meets its contract.
use mathlib.Core.Path.{sym, ◌∙◌}
use Rattle.pairs.specs.GroupsPairs.{group_outcome, outcome_in}
use Rattle.rows.specs.Places.{row-part}
use Rattle.pairs.proofs.Parts.{part_is}
use Rattle.pairs.proofs.vetted.pairs.Pairs.group_code.Goals as goal

pub invariant_of-pair : goal.invariant_of-pair
invariant_of-pair c =
    let p = c.args.self.now.comparable in
    record { first_row = part_is p c.args.i c.requires.first; second_row = part_is p c.args.j c.requires.second }

pub returns-then-in_group : goal.returns-then-in_group
unfolding group_outcome outcome_in
returns-then-in_group c =
    let rows = c.args.self.now.rows in
    rw (← (row-part rows.columns rows.cells.now c.args.i), ← (row-part rows.columns rows.cells.now c.args.j))
    (rw (sym c.in_group.ensures ∙ c.if-in_group.true) c.code.ensures)

pub returns : goal.returns
unfolding group_outcome outcome_in
returns c =
    let rows = c.args.self.now.rows in
    rw (← (row-part rows.columns rows.cells.now c.args.i), ← (row-part rows.columns rows.cells.now c.args.j))
    (rw (sym c.in_group.ensures ∙ c.if-in_group.false))
