use mathlib.Core.Path.{◌≡◌}
use Prim.Native.Nat.{◌+◌, ◌*◌}
use native.Mathlib.Omega.{arith}
use borrow.Author.Rules.{rules}
use lib.ListN.{length}
use Rattle.model.specs.Better.{cell}
use Rattle.model.specs.Query.{row_at}
use Rattle.rows.proofs.Filled.{filled-block, filled-column}
use Rattle.rows.proofs.Put.{stretch-put}
use Rattle.rows.proofs.vetted.cells.fill_block.Goals as goal

pub slice_bounds-fill-end : goal.slice_bounds-fill-end
slice_bounds-fill-end c =
    omega (
      arith,
      c.requires.room.each c.args.b c.requires.within,
      c.args.rows.now.narrow,
      c.height-m.ensures.few,
      c.loop-c.auto.values,
      c.loop-c-test.true,
    )

pub loop-c-preserved : goal.loop-c-preserved
loop-c-preserved c =
    let r = c.args.rows.now in
    let b = c.args.b in
    let m = c.height-m.ensures in
    let h = c.loop-c.c in
    let long : length c.fill.new.entries ≡ c.height-m.result = omega (arith, c.fill.auto.entries) in
    filled-column r.columns r.cells.now r.n b h c.height-m.result c.loop-c.values _ r.narrow c.loop-c-test.true m.few m.all
    (stretch-put (λ j y. y ≡ cell (row_at r.columns r.cells.now (b * 64 + j)) h) (b * 512 + h * 64) c.loop-c.values c.fill.new.entries
    (omega (arith, c.requires.room.each b c.requires.within, r.narrow, m.few, c.loop-c.auto.values, c.loop-c-test.true)) long
    (λ j l. let w = c.fill.ensures.each j (omega (arith, l, long)) in search rules))
    c.loop-c.invariant

pub returns : goal.returns
returns c =
    let r = c.args.rows.now in
    let e : c.loop-c.c ≡ r.columns = omega arith in
    filled-block r.columns r.cells.now r.n c.args.b c.loop-c.values (rw e at c.loop-c.invariant)
