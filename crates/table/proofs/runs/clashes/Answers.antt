-- `table::runs::clashes` meets its contract.
use Rattle.std.proofs.Common.{◌≡◌, ◌+◌, ◌-◌, true, false, refl, rules, tests, arith}
use Rattle.std.proofs.lemmas.Iterator.{cases_from_any, YieldsList-from_range}
use Rattle.model.specs.Check.{clash}
use Rattle.records.specs.Fields.{value_at}
use Rattle.terms.proofs.AnyBelow.{any-values}
use Rattle.table.proofs.runs.clashes.Goals as goal

pub returns : goal.returns
returns c =
    let t = c.args.table.now in
    let j = c.args.j in
    let k = c.args.k in
    any-values t j k c.requires.before c.requires.each (clash (value_at t k)) _
    (cases_from_any _ _ _ (λ i. clash (value_at t k) (value_at t i) ≡ true) (λ i. clash (value_at t k) (value_at t i) ≡ false) c.any.ensures.ran
    (YieldsList-from_range (j + 1) k (k - (j + 1)) refl (omega arith)) (λ x q h. search (rules, tests)) (λ x q h. search (rules, tests)))
