-- `demands::agreement::witnesses::is_witness` meets its contract: rows i and e are parts of the run.
use native.Mathlib.Omega.{arith}
use Rattle.demands.specs.Witness.{is_witness}
use Rattle.rows.specs.Places.{row-part}
use Rattle.demands.proofs.Rows.{row-end, row_small}
use Rattle.demands.proofs.agreement.witnesses.is_witness.Goals as goal

pub overflow_mul-s : goal.overflow_mul-s
overflow_mul-s c =
    let a = c.args in
    omega (arith, row_small a.columns a.rows.now a.n a.answers.now c.requires.0 a.i c.requires.1)

pub overflow_mul-t : goal.overflow_mul-t
overflow_mul-t c =
    let a = c.args in
    omega (arith, row_small a.columns a.rows.now a.n a.answers.now c.requires.0 a.e c.requires.2)

pub overflow_add-x : goal.overflow_add-x
overflow_add-x c =
    let a = c.args in
    omega (arith, row_small a.columns a.rows.now a.n a.answers.now c.requires.0 a.i c.requires.1)

pub offset_bounds-rows-s : goal.offset_bounds-rows-s
offset_bounds-rows-s c =
    let a = c.args in
    omega (arith, row_small a.columns a.rows.now a.n a.answers.now c.requires.0 a.i c.requires.1)

pub slice_bounds-x-end : goal.slice_bounds-x-end
slice_bounds-x-end c =
    let a = c.args in
    omega (arith, row-end a.columns a.rows.now a.n a.answers.now c.requires.0 a.i c.requires.1)

pub overflow_add-y : goal.overflow_add-y
overflow_add-y c =
    let a = c.args in
    omega (arith, row_small a.columns a.rows.now a.n a.answers.now c.requires.0 a.e c.requires.2)

pub offset_bounds-rows-t : goal.offset_bounds-rows-t
offset_bounds-rows-t c =
    let a = c.args in
    omega (arith, row_small a.columns a.rows.now a.n a.answers.now c.requires.0 a.e c.requires.2)

pub slice_bounds-y-end : goal.slice_bounds-y-end
slice_bounds-y-end c =
    let a = c.args in
    omega (arith, row-end a.columns a.rows.now a.n a.answers.now c.requires.0 a.e c.requires.2)

pub returns : goal.returns
unfolding is_witness
returns c =
    let a = c.args in
    rw (
      c.widened.ensures,
      c.in_group.ensures,
      c.number_given.ensures,
      c.compare.ensures,
      row-part a.columns a.rows.now a.i,
      row-part a.columns a.rows.now a.e,
    )
