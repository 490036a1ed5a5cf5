use mathlib.Core.Path.{sym, ◌∙◌, ap, subst}
use Prim.Native.Nat.{◌+◌}
use native.Mathlib.Omega.{arith}
use native.Mathlib.Nat.{not-suc-le-zero}
use lib.ListN.{length}
use Rattle.model.specs.Record.{record_count}
use Rattle.terms.proofs.RunEnd.{few-records}
use Rattle.terms.proofs.Rows.{ReachedBelow, nine-term, below_other, below_more}
use Rattle.terms.proofs.vetted.prepared.fill_closures.Goals as goal
use Rattle.terms.proofs.vetted.prepared.fill_closures.Goals.{then-kind_at, else-kind_at}

pub overflow_cast-n : goal.overflow_cast-n
unfolding record_count
overflow_cast-n c = omega (arith, few-records c.args.table.now c.requires.0)

pub loop-k-init : goal.loop-k-init
loop-k-init c = (c.requires.2, λ j column l. absurd (not-suc-le-zero l))

pub bounds-ends-k : goal.bounds-ends-k
unfolding record_count
bounds-ends-k c =
    omega (arith, few-records c.args.table.now c.requires.0)

pub closure-requires : goal.closure-requires
unfolding record_count
closure-requires c =
    let nine = sym c.kind_at.ensures ∙ c.if-kind_at.true in
    (c.requires.1.each c.loop-k.k (omega arith) (nine-term c.args.table.now c.loop-k.k nine)).values

pub put_rows-requires : goal.put_rows-requires
unfolding record_count
put_rows-requires c =
    let nine = sym c.kind_at.ensures ∙ c.if-kind_at.true in
    let v = (c.requires.1.each c.loop-k.k (omega arith) (nine-term c.args.table.now c.loop-k.k nine)).values in
    (v.before, v.few, v.last, c.loop-k.invariant.0)

pub loop-k-preserved : goal.loop-k-preserved
unfolding record_count
loop-k-preserved c =
    let t = c.args.table.now in
    let ends = c.args.ends.now in
    let k = c.loop-k.k in (
      elim c.if-kind_at.branch [
        | then-kind_at w ↦ ap length w.reach-is ∙ w.put_rows.ensures.size ∙ c.loop-k.invariant.0
        | else-kind_at w ↦ ap length w.reach-is ∙ c.loop-k.invariant.0
      ],
      elim c.if-kind_at.branch [
        | then-kind_at w ↦
            subst (ReachedBelow t ends (k + 1)) (sym w.reach-is)
            (below_more t ends k w.closure.result c.loop-k.reach _ c.requires.1 (omega arith) (sym c.kind_at.ensures ∙ w.if-kind_at.true) w.closure.ensures (omega (arith, c.loop-k.invariant.0)) w.put_rows.ensures c.loop-k.invariant.1)
        | else-kind_at w ↦
            subst (ReachedBelow t ends (k + 1)) (sym w.reach-is)
            (below_other t ends k c.loop-k.reach c.loop-k.invariant.1 (λ q. w.if-kind_at.false (c.kind_at.ensures ∙ q)))
      ],
    )

pub returns : goal.returns
unfolding record_count
returns c =
    (record { each = λ k column h e. c.loop-k.invariant.1 k column (omega arith) e }, c.loop-k.invariant.0)
