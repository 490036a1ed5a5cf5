-- `compare::outcomes::record_code` meets its contract.
use Rattle.std.proofs.Common.{sym, ◌∙◌, pos, get_or, w32, to_z-of_z, rules}
use Rattle.model.specs.Better.{cell}
use Rattle.compare.proofs.outcomes.record_code.Goals as goal

pub record-requires : goal.record-requires
record-requires c = c.requires.below

pub bounds-ends-k : goal.bounds-ends-k
bounds-ends-k c = c.requires.below

pub invariant_of-run : goal.invariant_of-run
invariant_of-run c =
    record { values = (c.requires.of_base c.in-Base.column c.in-Base.b (sym c.record.ensures ∙ c.in-Base.is)).0.values }

pub bounds-first-c : goal.bounds-first-c
bounds-first-c c =
    (c.requires.of_base c.in-Base.column c.in-Base.b (sym c.record.ensures ∙ c.in-Base.is)).1

pub bounds-second-c : goal.bounds-second-c
bounds-second-c c =
    (c.requires.of_base c.in-Base.column c.in-Base.b (sym c.record.ensures ∙ c.in-Base.is)).2

pub base_code-requires-clause-is_sound : goal.base_code-requires-clause-is_sound
base_code-requires-clause-is_sound c =
    (c.requires.of_base c.in-Base.column c.in-Base.b (sym c.record.ensures ∙ c.in-Base.is)).0.is_sound

pub base_code-requires-clause-reached : goal.base_code-requires-clause-reached
base_code-requires-clause-reached c =
    (c.requires.of_base c.in-Base.column c.in-Base.b (sym c.record.ensures ∙ c.in-Base.is)).0.reached

pub compound_code-requires : goal.compound_code-requires
compound_code-requires c =
    c.requires.of_compound c.in-Compound.c (sym c.record.ensures ∙ c.in-Compound.is)

pub returns-in-Base : goal.returns-in-Base
unfolding cell
returns-in-Base c =
    let column = c.in-Base.column in
    let x = to_z-of_z {w = w32} {z = get_or c.args.first.now column (pos 0)} (record { sfits = search rules }) in
    let y = to_z-of_z {w = w32} {z = get_or c.args.second.now column (pos 0)} (record { sfits = search rules }) in
    rw (sym c.record.ensures ∙ c.in-Base.is) (rw (x, y) at c.base_code.ensures)
