-- What the rows that are gone say of which are kept, over any relation, once elimination is settled.
use Rattle.std.specs.Prelude.{◌≡◌, true, false, List, ℕ, ◌<◌, get_or}
use Rattle.std.proofs.Common.{sym, ◌∙◌, eq-eqb, ne_eqb}
use Rattle.model.specs.Query.{kept}
use Rattle.laws.specs.Order.{Rel}
use Rattle.laws.specs.Elimination.{Settled}

-- A row that is not gone is kept,
pub kept_of : (beats : Rel ℕ) (n i : ℕ) (gone : List ℕ) → Settled beats n gone → i < n → get_or gone i 0 ≡ 0
    → kept n beats i ≡ true
kept_of beats n i gone s l e = sym (s.each i l) ∙ eq-eqb (get_or gone i 0) 0 e

-- and one that is gone is dropped.
pub dropped-of : (beats : Rel ℕ) (n i : ℕ) (gone : List ℕ) → Settled beats n gone → i < n → (get_or gone i 0 ≡ 0 → ⊥)
    → kept n beats i ≡ false
dropped-of beats n i gone s l e = sym (s.each i l) ∙ ne_eqb (get_or gone i 0) 0 e
