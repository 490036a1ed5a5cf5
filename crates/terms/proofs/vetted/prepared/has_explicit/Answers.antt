-- `terms::vetted::prepared::has_explicit` meets its contract.
use Rattle.std.proofs.Common.{◌≡◌, ◌/◌, length, refl, eqb, true, false, arith, rules, tests}
use Rattle.std.proofs.lemmas.Iterator.{cases_from_any, YieldsList-from_range}
use Rattle.model.specs.Record.{record_count, kind_at}
use Rattle.terms.proofs.RunEnd.{few-records}
use Rattle.terms.proofs.AnyBelow.{any-range}
use Rattle.terms.proofs.vetted.prepared.has_explicit.Goals as goal

pub overflow_cast-n : goal.overflow_cast-n
unfolding record_count
overflow_cast-n c = omega (arith, few-records c.args.table.now c.requires)

pub returns : goal.returns
unfolding record_count
returns c =
    let t = c.args.table.now in
    let n = length t / 12 in
    any-range n _ (λ k. eqb (kind_at t k) 9)
    (cases_from_any _ _ _ (λ k. eqb (kind_at t k) 9 ≡ true) (λ k. eqb (kind_at t k) 9 ≡ false) c.any.ensures.ran
    (YieldsList-from_range 0 n n refl (omega arith)) (λ x q k. search (rules, tests)) (λ x q k. search (rules, tests)))
