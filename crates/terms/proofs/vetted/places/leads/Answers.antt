-- `terms::vetted::places::leads` meets its contract.
use native.Mathlib.Omega.{arith}
use borrow.Author.Tests.{eq-eqb, ne_eqb}
use Rattle.terms.specs.Closure.{cell_at}
use Rattle.terms.specs.Places.{leads_to}
use Rattle.terms.proofs.vetted.places.leads.Goals as goal

pub overflow_mul-none : goal.overflow_mul-none
overflow_mul-none c = omega arith

pub returns-then-q-none : goal.returns-then-q-none
unfolding leads_to
returns-then-q-none c = rw (eq-eqb _ _ c.if-q-none.true)

pub returns-then-p-none : goal.returns-then-p-none
unfolding leads_to
returns-then-p-none c = rw (ne_eqb _ _ c.if-q-none.false, eq-eqb _ _ c.if-p-none.true)

pub overflow_mul-at : goal.overflow_mul-at
overflow_mul-at c = omega arith

pub overflow_add-at : goal.overflow_add-at
overflow_add-at c = omega arith

pub overflow_sub-at : goal.overflow_sub-at
overflow_sub-at c = omega arith

pub offset_bounds-reach-p : goal.offset_bounds-reach-p
offset_bounds-reach-p c = omega arith

pub bounds-reach-p : goal.bounds-reach-p
bounds-reach-p c = omega arith

pub bounds-reach-at : goal.bounds-reach-at
bounds-reach-at c = omega arith

pub returns : goal.returns
unfolding leads_to cell_at
returns c = rw (ne_eqb _ _ c.if-q-none.false, ne_eqb _ _ c.if-p-none.false)
