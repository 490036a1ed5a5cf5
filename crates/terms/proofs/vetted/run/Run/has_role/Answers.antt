-- `terms::vetted::run::Run::has_role` meets its contract.
use Rattle.std.proofs.Common.{◌≡◌, ◌+◌, ◌-◌, eqb, true, false, refl, rules, tests, arith}
use Rattle.std.proofs.lemmas.Iterator.{cases_from_any, YieldsList-from_range}
use Rattle.model.specs.Record.{p_at}
use Rattle.terms.proofs.AnyBelow.{any-values}
use Rattle.terms.proofs.vetted.run.Run.has_role.Goals as goal

pub returns : goal.returns
returns c =
    let s = c.args.self.now in
    let t = s.of.table.now in
    any-values t s.k s.e s.values.before s.values.each (λ a. eqb a.role c.args.role) _
    (cases_from_any _ _ _ (λ i. eqb (p_at t i) c.args.role ≡ true) (λ i. eqb (p_at t i) c.args.role ≡ false) c.any.ensures.ran
    (YieldsList-from_range (s.k + 1) s.e (s.e - (s.k + 1)) refl (omega arith)) (λ x q k. search (rules, tests)) (λ x q k. search (rules, tests)))
