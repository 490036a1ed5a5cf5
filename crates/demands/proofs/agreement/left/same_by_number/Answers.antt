-- `demands::agreement::left::same_by_number` meets its contract.
use Rattle.std.proofs.Common.{◌≡◌, ℕ, Bool, true, false, refl, rules, tests, arith}
use Rattle.std.proofs.lemmas.Iterator.{cases_from_all, YieldsList-from_range}
use Rattle.demands.specs.Leaving.{same_entry, same_by_number}
use Rattle.demands.proofs.AllBelow.{all-range}
use Rattle.demands.proofs.agreement.left.same_by_number.Goals as goal

pub returns : goal.returns
unfolding same_by_number
returns c =
    let a = c.args in
    let p : ℕ → Bool = same_entry a.old.now a.m a.answers.now a.again.now in
    all-range a.m p _
    (cases_from_all _ _ _ (λ i. p i ≡ true) (λ i. p i ≡ false) c.all.ensures.ran
    (YieldsList-from_range 0 a.m a.m refl (omega arith)) (λ x q k. search (rules, tests)) (λ x q k. search (rules, tests)))
