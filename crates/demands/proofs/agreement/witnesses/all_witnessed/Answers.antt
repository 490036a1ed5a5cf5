-- `demands::agreement::witnesses::all_witnessed` meets its contract.
use Rattle.std.proofs.Common.{◌≡◌, ℕ, Bool, true, false, refl, rules, tests, arith}
use Rattle.std.proofs.lemmas.Iterator.{cases_from_all, YieldsList-from_range}
use Rattle.demands.specs.Witness.{witnessed, all_witnessed}
use Rattle.demands.proofs.AllBelow.{all-range}
use Rattle.demands.proofs.agreement.witnesses.all_witnessed.Goals as goal

pub returns : goal.returns
unfolding all_witnessed
returns c =
    let a = c.args in
    let p : ℕ → Bool = witnessed a.table.now a.columns a.rows.now a.n a.term a.group a.answers.now in
    all-range a.n p _
    (cases_from_all _ _ _ (λ i. p i ≡ true) (λ i. p i ≡ false) c.all.ensures.ran
    (YieldsList-from_range 0 a.n a.n refl (omega arith)) (λ x q k. search (rules, tests)) (λ x q k. search (rules, tests)))
