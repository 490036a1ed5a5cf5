use mathlib.Core.Path.{◌≡◌}
use native.Mathlib.Omega.{arith}
use Rattle.rows.specs.Places.{row_in}
use Rattle.demands.specs.Leaving.{marked}
use Rattle.demands.proofs.Gathering.{gathered_none, gathered-more, gathered-same, gathered-few}
use Rattle.demands.proofs.agreement.left.gather.Goals as goal
use Rattle.demands.proofs.agreement.left.gather.Goals.{then-stay-k, else-stay-k}

pub loop-k-init : goal.loop-k-init
loop-k-init c =
    let a = c.args in (
      gathered_none a.columns a.rows.now (marked a.stay.now) a.left.now a.old.now,
      c.requires.1,
    )

pub put_row-requires : goal.put_row-requires
put_row-requires c =
    let a = c.args in
    let v = c.loop-k.invariant in
    let w = gathered-few a.columns a.rows.now (marked a.stay.now) c.loop-k.k c.loop-k.m _ _ v.0 in (
      record {
        few = c.requires.0.few;
        in_run = row_in a.n a.columns _ c.requires.0.run c.loop-k.k (omega arith);
        low = omega (arith, c.requires.0.most);
        room = omega (arith, c.requires.0.most, w);
      },
      v.1,
    )

pub overflow_add-m : goal.overflow_add-m
overflow_add-m c =
    let a = c.args in
    let w = gathered-few a.columns a.rows.now (marked a.stay.now) c.loop-k.k c.loop-k.m _ _
    c.loop-k.invariant.0 in
    omega (arith, w, c.requires.0.most)

pub loop-k-preserved : goal.loop-k-preserved
unfolding marked
loop-k-preserved c =
    let a = c.args in
    let v = c.loop-k.invariant in
    let stays = marked a.stay.now in
    elim c.if-stay-k.branch [
      | then-stay-k w ↦ (
        rw (w.left-is, w.old-is, w.m-is)
            (gathered-more a.columns a.rows.now stays c.loop-k.k c.loop-k.m c.loop-k.left c.loop-k.old
            v.0 _ _ w.if-stay-k.true w.put_row.ensures.0 w.put_row.ensures.1),
        rw (w.left-is, w.old-is) w.put_row.ensures.2,
      )
      | else-stay-k w ↦ (
        rw (w.left-is, w.old-is, w.m-is)
            (gathered-same a.columns a.rows.now stays c.loop-k.k c.loop-k.m c.loop-k.left c.loop-k.old
            v.0 w.if-stay-k.false),
        rw (w.left-is, w.old-is) v.1,
      )
    ]

pub returns : goal.returns
returns c =
    let v = c.loop-k.invariant in
    let e : c.loop-k.k ≡ c.args.n = omega arith in
    (rw e at v.0, v.1)
