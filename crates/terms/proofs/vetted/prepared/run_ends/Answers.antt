use mathlib.Core.Path.{◌≡◌, refl, sym, ◌∙◌}
use mathlib.Core.Logic.{⊎_elim}
use Prim.Native.Nat.{◌+◌, ◌-◌, ◌<◌}
use native.Mathlib.Omega.{arith}
use lib.ListN.{length, get_or, length-set}
use lib.Seq.{get_or-set_same, get_or-set_other}
use Rattle.model.specs.Record.{record_count}
use Rattle.laws.specs.Search.{lt-suc-cases}
use Rattle.terms.proofs.RunEnd.{few-records, next-run, FirstFrom, first-none, first_next, first-term, first-value}
use Rattle.terms.proofs.vetted.prepared.run_ends.Goals as goal

pub overflow_cast-n : goal.overflow_cast-n
unfolding record_count
overflow_cast-n c = omega (arith, few-records c.args.table.now c.requires)

pub loop-k-init : goal.loop-k-init
loop-k-init c = (refl, first-none _ _, λ j a b. absurd (omega (arith, a, b)))

pub bounds-ends-k : goal.bounds-ends-k
unfolding record_count
bounds-ends-k c =
    omega (arith, few-records c.args.table.now c.requires)

pub loop-k-preserved-then-is_term_at : goal.loop-k-preserved-then-is_term_at
unfolding record_count
loop-k-preserved-then-is_term_at c =
    let t = c.args.table.now in
    let n = record_count t in
    let k = c.loop-k.k - 1 in
    let next = c.loop-k.next in
    let up : c.loop-k.k ≡ k + 1 = omega arith in
    let first : FirstFrom t (k + 1) n next = rw up at c.loop-k.invariant.1 in
    let w : k < length c.loop-k.ends = omega (arith, c.loop-k.invariant.0, few-records t c.requires) in (
      length-set c.loop-k.ends k next ∙ c.loop-k.invariant.0,
      first-term t n k (omega arith) (sym c.is_term_at.ensures ∙ c.if-is_term_at.true),
      λ j a b.
          ⊎_elim
          (λ q. rw (get_or-set_other c.loop-k.ends k j next 0 (λ e. omega (arith, q, e))) (c.loop-k.invariant.2 j (omega (arith, q)) b))
          (λ q. rw (← q, get_or-set_same c.loop-k.ends k next 0 w) (first_next t n k next first))
          (lt-suc-cases k j (omega (arith, a))),
    )

pub loop-k-preserved : goal.loop-k-preserved
unfolding record_count
loop-k-preserved c =
    let t = c.args.table.now in
    let n = record_count t in
    let k = c.loop-k.k - 1 in
    let next = c.loop-k.next in
    let up : c.loop-k.k ≡ k + 1 = omega arith in
    let first : FirstFrom t (k + 1) n next = rw up at c.loop-k.invariant.1 in
    let w : k < length c.loop-k.ends = omega (arith, c.loop-k.invariant.0, few-records t c.requires) in (
      length-set c.loop-k.ends k next ∙ c.loop-k.invariant.0,
      first-value t n k next first (sym c.is_term_at.ensures ∙ c.if-is_term_at.false),
      λ j a b.
          ⊎_elim
          (λ q. rw (get_or-set_other c.loop-k.ends k j next 0 (λ e. omega (arith, q, e))) (c.loop-k.invariant.2 j (omega (arith, q)) b))
          (λ q. rw (← q, get_or-set_same c.loop-k.ends k next 0 w) (first_next t n k next first))
          (lt-suc-cases k j (omega (arith, a))),
    )

pub returns : goal.returns
unfolding record_count
returns c =
    let t = c.args.table.now in
    record { each = λ k h term. next-run t c.requires k (get_or c.loop-k.ends k 0) term (c.loop-k.invariant.2 k (omega arith) h) }
