-- `rows::vetted::keys::row_key` meets its contract.
use mathlib.Core.Path.{◌∙◌, ap}
use mir.Syntax.{w32}
use mir.Facts.{to_z-of_z}
use native.Mathlib.Omega.{arith}
use borrow.Author.Rules.{sfits_of}
use Rattle.rows.specs.Keys.{key_of, key-past}
use Rattle.rows.specs.Places.{row_in, row-length, cell-run}
use Rattle.rows.proofs.vetted.keys.row_key.Goals as goal

pub overflow_mul-i : goal.overflow_mul-i
overflow_mul-i c = omega (arith, row_in _ _ _ c.requires.whole c.args.i c.requires.within)

pub overflow_add-i : goal.overflow_add-i
overflow_add-i c = omega (arith, row_in _ _ _ c.requires.whole c.args.i c.requires.within)

pub offset_bounds-cells-i : goal.offset_bounds-cells-i
offset_bounds-cells-i c = omega (arith, row_in _ _ _ c.requires.whole c.args.i c.requires.within)

pub bounds-cells-i : goal.bounds-cells-i
bounds-cells-i c = omega (arith, row_in _ _ _ c.requires.whole c.args.i c.requires.within)

pub returns-then-c-columns : goal.returns-then-c-columns
returns-then-c-columns c =
    let r = c.args in
    c.key.ensures
    ∙ ap key_of
    (to_z-of_z {w = w32} (sfits_of c.key-arg-1.given)
    ∙ cell-run r.columns r.cells.now c.args.i c.args.c c.if-c-columns.true)

pub returns-else-c-columns : goal.returns-else-c-columns
returns-else-c-columns c =
    let r = c.args in
    key-past _ c.args.c (rw (row-length r.columns r.cells.now r.n c.requires.whole c.args.i c.requires.within) c.if-c-columns.false)
