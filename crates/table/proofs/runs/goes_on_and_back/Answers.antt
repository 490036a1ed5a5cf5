-- `table::runs::goes_on_and_back` meets its contract.
use Rattle.std.proofs.Common.{◌≡◌, ◌+◌, ◌-◌, true, false, refl, rules, tests, arith}
use Rattle.std.proofs.lemmas.Iterator.{cases_from_any, YieldsList-from_range}
use Rattle.model.specs.Search.{any_in}
use Rattle.laws.specs.Runs.{values_between}
use Rattle.records.specs.Fields.{value_at}
use Rattle.terms.proofs.AnyBelow.{any-values}
use Rattle.table.specs.Rules.{goes_on, goes_back, on_and_back}
use Rattle.table.proofs.runs.goes_on_and_back.Goals as goal

pub returns-then-any : goal.returns-then-any
unfolding on_and_back
returns-then-any c =
    let t = c.args.table.now in
    let j = c.args.j in
    let k = c.args.k in
    let on : c.any.result ≡ any_in (values_between t j k) (goes_on (value_at t k))
    = any-values t j k c.requires.before c.requires.each (goes_on (value_at t k)) _
    (cases_from_any _ _ _ (λ i. goes_on (value_at t k) (value_at t i) ≡ true) (λ i. goes_on (value_at t k) (value_at t i) ≡ false) c.any.ensures.ran
    (YieldsList-from_range (j + 1) k (k - (j + 1)) refl (omega arith)) (λ x q h. search (rules, tests)) (λ x q h. search (rules, tests))) in
    let back : c.any-then-any.result ≡ any_in (values_between t j k) (goes_back (value_at t k))
    = any-values t j k c.requires.before c.requires.each (goes_back (value_at t k)) _
    (cases_from_any _ _ _ (λ i. goes_back (value_at t k) (value_at t i) ≡ true) (λ i. goes_back (value_at t k) (value_at t i) ≡ false) c.any-then-any.ensures.ran
    (YieldsList-from_range (j + 1) k (k - (j + 1)) refl (omega arith)) (λ x q h. search (rules, tests)) (λ x q h. search (rules, tests))) in
    rw (← on, c.if-any.true) back

pub returns-else-any : goal.returns-else-any
unfolding on_and_back
returns-else-any c =
    let t = c.args.table.now in
    let j = c.args.j in
    let k = c.args.k in
    let on : c.any.result ≡ any_in (values_between t j k) (goes_on (value_at t k))
    = any-values t j k c.requires.before c.requires.each (goes_on (value_at t k)) _
    (cases_from_any _ _ _ (λ i. goes_on (value_at t k) (value_at t i) ≡ true) (λ i. goes_on (value_at t k) (value_at t i) ≡ false) c.any.ensures.ran
    (YieldsList-from_range (j + 1) k (k - (j + 1)) refl (omega arith)) (λ x q h. search (rules, tests)) (λ x q h. search (rules, tests))) in
    rw (← on, c.if-any.false)
