-- `demands::agreement::stays::mark_apart` meets its contract, by those of the two engines.
use mathlib.Core.Path.{sym}
use Prim.Native.Nat.{◌*◌}
use native.Mathlib.Omega.{arith}
use lib.Seq.{length-take-le}
use Rattle.demands.proofs.Marked.{cut_in, cut_small, marks-apart}
use Rattle.demands.proofs.agreement.stays.mark_apart.Goals as goal

pub overflow_mul-cut : goal.overflow_mul-cut
overflow_mul-cut c =
    let a = c.args in
    omega (arith, cut_small a.columns a.rows.now a.n a.first c.requires.0 c.requires.1)

pub slice_bounds-query_direct-end : goal.slice_bounds-query_direct-end
slice_bounds-query_direct-end c =
    let a = c.args in
    sym (length-take-le (a.first * a.columns) a.rows.now
    (cut_in a.columns a.rows.now a.n a.first c.requires.0 c.requires.1))

pub offset_bounds-rows-cut : goal.offset_bounds-rows-cut
offset_bounds-rows-cut c =
    let a = c.args in
    omega (arith, cut_small a.columns a.rows.now a.n a.first c.requires.0 c.requires.1)

pub slice_bounds-query_by_parts-count : goal.slice_bounds-query_by_parts-count
slice_bounds-query_by_parts-count c =
    let a = c.args in
    cut_in a.columns a.rows.now a.n a.first c.requires.0 c.requires.1

pub slice_bounds-query_by_parts-start : goal.slice_bounds-query_by_parts-start
slice_bounds-query_by_parts-start c =
    let a = c.args in
    cut_in a.columns a.rows.now a.n a.first c.requires.0 c.requires.1

pub returns : goal.returns
returns c =
    let a = c.args in
    marks-apart a.table.now a.columns a.rows.now a.n a.first a.term a.group
    c.query_direct-direct.new.answers c.query_by_parts-parts.new.answers a.stay.now _ _
    c.query_direct-direct.ensures.buffer c.mark_kept.ensures.0 c.query_by_parts-parts.ensures.buffer
    c.mark_kept-2.ensures.0
