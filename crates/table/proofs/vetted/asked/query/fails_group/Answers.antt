-- `table::vetted::asked::query::fails_group` meets its contract.
use Rattle.std.proofs.Common.{◌≡◌, ℕ, Bool, ◌&&◌, true, false, refl, leb, rules, tests, arith}
use Rattle.std.proofs.lemmas.Iterator.{cases_from_any, YieldsList-from_range}
use Rattle.model.specs.Bytes.{bit}
use Rattle.model.specs.Query.{fails_group}
use Rattle.terms.proofs.AnyBelow.{any-range}
use Rattle.table.proofs.vetted.asked.query.fails_group.Goals as goal

pub returns : goal.returns
unfolding fails_group bit
returns c =
    let at : ℕ → Bool = λ j. bit c.args.group j && leb c.args.columns j in
    any-range 8 _ at
    (cases_from_any _ _ _ (λ j. at j ≡ true) (λ j. at j ≡ false) c.any.ensures.ran
    (YieldsList-from_range 0 8 8 refl (omega arith)) (λ x q k. search (rules, tests)) (λ x q k. search (rules, tests)))
