-- `pairs::pair::Pair::code` meets its contract.
use mathlib.Core.Path.{◌≡◌, ◌∙◌}
use Prim.Native.Nat.{◌<◌}
use native.Mathlib.Omega.{arith}
use Rattle.plan.specs.Told.{bits}
use Rattle.plan.specs.Exits.{mask_at}
use Rattle.plan.proofs.Known.{known-none, known-silent, known_more, known-stop, known-all}
use Rattle.pairs.proofs.Coded.{term-below}
use Rattle.pairs.proofs.Steps.{codes-none, codes-unmarked, codes-stored, known_next, first-term, next-term, next-is}
use Rattle.pairs.proofs.pair.Pair.code.Goals as goal
use Rattle.pairs.proofs.pair.Pair.code.Goals.{then-of-at+else-more-ge3, else-of-at}

pub loop-k-init : goal.loop-k-init
loop-k-init c =
    let s = c.args.self.now in
    let p = s.of.now.comparable in
    (λ l. first-term p, codes-none _ _ _ _ _, known-none p.exiting s.first.now s.second.now, omega arith)

pub returns-then-more-ge3 : goal.returns-then-more-ge3
unfolding mask_at bits
returns-then-more-ge3 c =
    let s = c.args.self.now in
    let exiting = s.of.now.comparable.exiting in
    let more = known_more exiting s.first.now s.second.now c.loop-k.invariant.2
    (rw c.record_code-c.ensures at c.told.ensures) in
    known-stop exiting s.first.now s.second.now more c.if-more-ge3.true

pub loop-k-preserved : goal.loop-k-preserved
unfolding mask_at
loop-k-preserved c =
    let s = c.args.self.now in
    let p = s.of.now.comparable in
    let v = c.loop-k.invariant in
    let t = c.loop-k-test.true in
    let is = v.0 t in
    let low : c.loop-k.k < 128 = omega (arith, t, term-below p) in
    let next = next-term p is t in
    elim c.if-of-at.branch [
      | then-of-at+else-more-ge3 m ↦ (
        next-is p is t,
        rw m.codes-is (codes-stored v.1 (omega (arith, low)) m.record_code-c.ensures next),
        rw m.known-is
            (known_next p.exiting
            (known_more p.exiting s.first.now s.second.now v.2 (rw m.record_code-c.ensures at m.told.ensures)) next),
        rw m.known-is m.if-more-ge3.false,
      )
      | else-of-at u ↦ (
        next-is p is t,
        rw u.codes-is (codes-unmarked v.1 u.if-of-at.false next),
        rw u.known-is
            (known_next p.exiting
            (known-silent p.exiting s.first.now s.second.now v.2 (p.marked.telling c.loop-k.k low u.if-of-at.false)) next),
        rw u.known-is v.3,
      )
    ]

pub returns : goal.returns
unfolding bits
returns c =
    let s = c.args.self.now in
    let v = c.loop-k.invariant in
    let all = known-all s.of.now.comparable.exiting s.first.now s.second.now v.2 c.loop-k-test.false in
    let small : c.loop-k.known ≡ bits c.loop-k.known = omega (arith, v.3) in
    small ∙ all
