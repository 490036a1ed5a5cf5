use mathlib.Core.Path.{◌≡◌}
use Prim.Native.Nat.{◌+◌, ◌*◌}
use native.Mathlib.Omega.{arith}
use lib.ListN.{length}
use Rattle.rows.proofs.Put.{stretch-put}
use Rattle.ranks.specs.Ranked.{RankOf}
use Rattle.ranks.proofs.Filled.{ranking-more}
use Rattle.ranks.proofs.vetted.table.fill_column.Goals as goal

pub loop-i-preserved : goal.loop-i-preserved
loop-i-preserved c =
    let m = c.height-m.ensures in
    let r = c.args.rows.now in
    let run = c.args.run.now in
    let i = c.loop-i.i in
    let is = RankOf run.of.table.now run.k run.e c.args.b r.columns r.cells.now c.args.column in
    let long : length c.fill_stretch.new.ranks ≡ c.height-m.result = omega (arith, c.fill_stretch.auto.ranks) in
    ranking-more is r.n c.args.stride run.k c.args.ranks.now c.requires.wide i c.height-m.result m.few m.all
    (stretch-put (λ j y. is (i * 64 + j) y) (i * c.args.stride + run.k * 64) c.loop-i.ranks c.fill_stretch.new.ranks
    (omega (arith, c.requires.room.each i (omega (arith, c.div_ceil-i-end.ensures, c.loop-i-test.true)), c.requires.wide, m.few, c.loop-i.auto.ranks)) long (λ j l. c.fill_stretch.ensures.each j (omega (arith, l, long))))
    c.loop-i.invariant
