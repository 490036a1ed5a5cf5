use mathlib.Core.Path.{refl}
use Prim.Native.Nat.{◌-◌}
use native.Mathlib.Omega.{arith}
use lib.ListN.{replicate}
use Rattle.plan.specs.declared.vetted.exit_masks.Exit.TheVariants.{Nothing}
use Rattle.plan.proofs.Parts.{term-low, exits-start, exits-more, parts_in}
use Rattle.plan.proofs.vetted.exits.exits.Goals as goal

pub record-requires : goal.record-requires
record-requires c = omega (arith, term-low c.requires)

pub bounds-exits-term : goal.bounds-exits-term
bounds-exits-term c = omega (arith, term-low c.requires)

pub overflow_step-k : goal.overflow_step-k
overflow_step-k c = omega (arith, term-low c.requires)

pub loop-k-init : goal.loop-k-init
loop-k-init c =
    rw c.start_mask.ensures
    (exits-start c.args.of.now.table.now c.args.term (omega (arith, term-low c.requires)) c.requires.taken.is_record (replicate 128 Nothing) refl
    c.record.result)

pub record-requires-in-loop-k : goal.record-requires-in-loop-k
record-requires-in-loop-k c = omega (arith, term-low c.requires)

pub push-requires-clause-few : goal.push-requires-clause-few
push-requires-clause-few c = omega (arith, term-low c.requires)

pub push-requires-clause-within : goal.push-requires-clause-within
push-requires-clause-within c =
    let l = term-low c.requires in
    rw c.record-in-loop-k.ensures
    (parts_in c.args.of.now.table.now c.requires.columns c.requires.taken.is_accepted c.args.term (c.loop-k.k - 1) (omega arith)
    (omega arith) c.loop-k.exits c.loop-k.invariant)

pub loop-k-preserved : goal.loop-k-preserved
loop-k-preserved c =
    let l = term-low c.requires in
    rw (c.push.ensures, c.record-in-loop-k.ensures)
    (exits-more c.args.of.now.table.now c.requires.columns c.requires.taken.is_accepted c.args.term (c.loop-k.k - 1) (omega arith)
    (omega arith) c.loop-k.exits c.loop-k.invariant)
