-- `terms::vetted::run::Run::end_place` meets its contract.
use Rattle.std.proofs.Common.{◌≡◌, List, ℕ, ◌+◌, ◌*◌, ◌≤◌, ◌<◌, sym, ◌∙◌, arith, rules, tests}
use Rattle.std.specs.Prelude.{Option, Some, None, ℤ}
use Rattle.std.specs.Option.{MatchOption, unwrap_or}
use Rattle.std.proofs.lemmas.Iterator.{first_from_Range}
use borrow.Author.Tests.{lt-ltb, le-ltb}
use Rattle.terms.specs.Prepared.{number_at, EndPlace}
use Rattle.terms.specs.Run.{Values}
use Rattle.terms.proofs.Ends.{place-named, place-unnamed}
use Rattle.terms.proofs.vetted.run.Run.end_place.Goals as goal

-- What a search from the first end finds, or the place past the last.
module _ (table : List ℕ) (k e : ℕ) (x : ℤ) (v : Values table k e) where
  place : (o : Option ℕ) → MatchOption o ((i : ℕ) → 2 * k + 2 ≤ i → i < 2 * e → number_at table i ≡ x → ⊥)
      (λ r. (2 * k + 2 ≤ r) × (r < 2 * e) × (number_at table r ≡ x) × ((i : ℕ) → 2 * k + 2 ≤ i → i < r → number_at table i ≡ x → ⊥))
      → EndPlace table k e x (unwrap_or o (2 * e))
  place None none =
      record {
        low = omega (arith, v.before);
        high = omega arith;
        found = λ h. absurd (omega arith);
        named = place-unnamed table k e x v.each none ∙ sym (le-ltb (2 * e) (2 * e) (omega arith));
      }
  place (Some r) f =
      record {
        low = f.0;
        high = omega (arith, f.1);
        found = λ h. f.2;
        named = place-named table k e x v.each r f.0 f.1 f.2 ∙ sym (lt-ltb r (2 * e) f.1);
      }

pub returns : goal.returns
returns c =
    let s = c.args.self.now in
    rw c.unwrap_or.ensures (place s.of.table.now s.k s.e c.args.x s.values _
    (first_from_Range _ _ _ _ (λ i. number_at s.of.table.now i ≡ c.args.x) (λ i. number_at s.of.table.now i ≡ c.args.x → ⊥)
    c.find.ensures.ran (λ i q w. search (rules, tests)) (λ i q w. (search rules, search (rules, tests)))))
