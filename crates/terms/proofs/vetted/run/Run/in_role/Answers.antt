-- `terms::vetted::run::Run::in_role` meets its contract.
use Rattle.std.proofs.Common.{◌≡◌, ◌+◌, ◌-◌, ◌&&◌, eqb, true, false, refl, rules, tests, arith}
use Rattle.std.proofs.lemmas.Iterator.{cases_from_any, YieldsList-from_range}
use Rattle.model.specs.Bytes.{eq_z}
use Rattle.model.specs.Record.{p_at, u_at}
use Rattle.model.specs.Better.{in_role}
use Rattle.terms.proofs.AnyBelow.{any-values}
use Rattle.terms.proofs.vetted.run.Run.in_role.Goals as goal

pub returns : goal.returns
unfolding in_role
returns c =
    let s = c.args.self.now in
    let t = s.of.table.now in
    let role = c.args.role in
    let x = c.args.x in
    any-values t s.k s.e s.values.before s.values.each (λ a. eqb a.role role && eq_z x a.u) _
    (cases_from_any _ _ _ (λ i. (eqb (p_at t i) role && eq_z x (u_at t i)) ≡ true) (λ i. (eqb (p_at t i) role && eq_z x (u_at t i)) ≡ false) c.any.ensures.ran
    (YieldsList-from_range (s.k + 1) s.e (s.e - (s.k + 1)) refl (omega arith)) (λ i q k. search (rules, tests)) (λ i q k. search (rules, tests)))
