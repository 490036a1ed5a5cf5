use mathlib.Core.Path.{◌≡◌}
use mathlib.Core.Bool.{false, not-not}
use native.Mathlib.Omega.{arith}
use lib.ListN.{length-set}
use Rattle.laws.specs.Writes.{wrote_none, wrote-head}
use Rattle.demands.specs.Leaving.{holds_own, spared}
use Rattle.demands.proofs.agreement.stays.mark_spared.Goals as goal

pub loop-i-init : goal.loop-i-init
loop-i-init c =
    let a = c.args in (
      c.requires.room,
      wrote_none false (spared (holds_own a.entries.now) a.out.now) 0 a.stay.now,
    )

pub loop-i-preserved : goal.loop-i-preserved
unfolding spared
loop-i-preserved c =
    let a = c.args in
    let v = c.loop-i.invariant in (
      simp length-set v.0,
      wrote-head false (spared (holds_own a.entries.now) a.out.now) a.stay.now c.loop-i.i
          c.loop-i.stay v.1 (omega (arith, c.requires.few, v.0))
          (rw (c.holds_own.ensures, c.asked_out.ensures, not-not)),
    )

pub returns : goal.returns
returns c =
    let v = c.loop-i.invariant in
    let e : c.loop-i.i ≡ c.args.n = omega arith in
    (rw e at v.1, v.0)
