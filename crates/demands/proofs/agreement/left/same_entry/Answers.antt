-- `demands::agreement::left::same_entry` meets its contract, branch by branch.
use native.Mathlib.Omega.{arith}
use borrow.Author.Tests.{lt-ltb, le-ltb}
use lib.ListN.{get_or}
use Rattle.demands.specs.Leaving.{same_entry}
use Rattle.demands.proofs.agreement.left.same_entry.Goals as goal

pub overflow_cast-e : goal.overflow_cast-e
overflow_cast-e c = omega (arith, c.type_inv.again c.args.i)

pub returns-then-e-m : goal.returns-then-e-m
unfolding same_entry
returns-then-e-m c =
    rw (le-ltb (get_or c.args.again.now c.args.i 0) c.args.m c.if-e-m.true)

pub overflow_cast-before : goal.overflow_cast-before
overflow_cast-before c =
    omega (arith, c.requires.0.within c.args.i c.requires.1)

pub offset_bounds-answers-before : goal.offset_bounds-answers-before
offset_bounds-answers-before c =
    omega (arith, c.requires.0.within c.args.i c.requires.1)

pub bounds-answers-before : goal.bounds-answers-before
bounds-answers-before c =
    c.requires.0.within c.args.i c.requires.1

pub returns : goal.returns
unfolding same_entry
returns c =
    rw (lt-ltb (get_or c.args.again.now c.args.i 0) c.args.m c.if-e-m.false)
