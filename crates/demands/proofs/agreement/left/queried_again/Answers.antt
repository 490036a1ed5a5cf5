-- `demands::agreement::left::queried_again` meets its contract, by those of the two engines.
use mathlib.Core.Path.{sym}
use Prim.Native.Nat.{ℕ}
use native.Mathlib.Omega.{arith}
use lib.ListN.{length-replicate}
use lib.IntN.{pos}
use Rattle.model.specs.Query.{row_count}
use Rattle.demands.specs.Leaving.{marked}
use Rattle.demands.proofs.Again.{cells-length, cells-few, numbers-within, twice}
use Rattle.demands.proofs.agreement.left.queried_again.Goals as goal

pub gather-m-requires : goal.gather-m-requires
unfolding row_count
gather-m-requires c =
    let p = c.requires in (
      record { few = p.few; run = p.run; most = p.most },
      record { cells = length-replicate 8192 (pos 0); numbers = length-replicate {A = ℕ} 1024 0 },
    )

pub overflow_mul-cells : goal.overflow_mul-cells
unfolding row_count
overflow_mul-cells c =
    let a = c.args in
    omega (
      arith,
      cells-few a.columns a.rows.now (marked a.stay.now) c.gather-m.result _ _ _ c.requires
          c.gather-m.ensures.0,
    )

pub slice_bounds-left-end : goal.slice_bounds-left-end
unfolding row_count
slice_bounds-left-end c =
    let a = c.args in
    omega (
      arith,
      c.gather-m.ensures.1.cells,
      cells-few a.columns a.rows.now (marked a.stay.now) c.gather-m.result _ _ _ c.requires
          c.gather-m.ensures.0,
    )

pub slice_bounds-query_direct-end : goal.slice_bounds-query_direct-end
unfolding row_count
slice_bounds-query_direct-end c =
    let a = c.args in
    sym (cells-length a.columns a.rows.now (marked a.stay.now) c.gather-m.result _ _ _ c.requires
    c.gather-m.ensures.0)

pub same_answers-one-requires : goal.same_answers-one-requires
unfolding row_count
same_answers-one-requires c =
    let a = c.args in
    numbers-within a.columns a.rows.now (marked a.stay.now) c.gather-m.result _ _ _ c.requires
    c.gather-m.ensures.0 a.table.now a.term a.group a.again.now _ c.query_direct-direct.result
    c.query_direct-direct.ensures.reply c.query_direct-direct.ensures.buffer

pub slice_bounds-left-end-2 : goal.slice_bounds-left-end-2
unfolding row_count
slice_bounds-left-end-2 c =
    let a = c.args in
    omega (
      arith,
      c.gather-m.ensures.1.cells,
      cells-few a.columns a.rows.now (marked a.stay.now) c.gather-m.result _ _ _ c.requires
          c.gather-m.ensures.0,
    )

pub slice_bounds-query_by_parts-end : goal.slice_bounds-query_by_parts-end
unfolding row_count
slice_bounds-query_by_parts-end c =
    let a = c.args in
    sym (cells-length a.columns a.rows.now (marked a.stay.now) c.gather-m.result _ _ _ c.requires
    c.gather-m.ensures.0)

pub same_answers-requires : goal.same_answers-requires
unfolding row_count
same_answers-requires c =
    let a = c.args in
    numbers-within a.columns a.rows.now (marked a.stay.now) c.gather-m.result _ _ _ c.requires
    c.gather-m.ensures.0 a.table.now a.term a.group c.query_direct-direct.new.answers _
    c.query_by_parts-parts.result c.query_by_parts-parts.ensures.reply c.query_by_parts-parts.ensures.buffer

pub returns : goal.returns
unfolding row_count
returns c =
    let a = c.args in
    twice a.columns a.rows.now (marked a.stay.now) c.gather-m.result _ _ _ c.requires
    c.gather-m.ensures.0 a.table.now a.term a.group a.again.now
    c.query_direct-direct.new.answers _ c.query_direct-direct.result c.query_by_parts-parts.result
    c.query_direct-direct.ensures.reply c.query_direct-direct.ensures.buffer c.query_by_parts-parts.ensures.reply
    c.query_by_parts-parts.ensures.buffer a.total c.same_answers-one.result c.same_answers.result
    c.same_answers-one.ensures c.same_answers.ensures
