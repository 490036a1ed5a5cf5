use mathlib.Core.Path.{refl, sym}
use Prim.Native.Nat.{ℕ}
use native.Mathlib.Omega.{arith}
use native.Mathlib.Numerals.{add-one}
use Rattle.model.specs.declared.{Refusal.Refusal}
use Rattle.model.specs.Replies.{refusals, numbered, refusal}
use Rattle.model.specs.Check.{refuse_if, each_below}
use Rattle.laws.specs.Verdicts.{each_first}
use Rattle.table.specs.Verdict.{loose_by}
use Rattle.table.proofs.verdict.judge_loose.Goals as goal

pub loop-k-init : goal.loop-k-init
unfolding each_below
loop-k-init c = refl

pub returns-then-terms-at : goal.returns-then-terms-at
unfolding refusal numbered refusals loose_by
returns-then-terms-at c =
    let a = c.args in
    sym (each_first (λ (k : ℕ). refuse_if (loose_by a.terms.now a.used.now a.near k) (refusal 14 k)) a.n c.loop-k.k (Refusal.Loose c.loop-k.k) (omega arith) c.loop-k.invariant
    (rw c.if-terms-at.true))

pub loop-k-preserved : goal.loop-k-preserved
unfolding each_below loose_by
loop-k-preserved c =
    rw (add-one, c.loop-k.invariant, c.if-terms-at.false)
