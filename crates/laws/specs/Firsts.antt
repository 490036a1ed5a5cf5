-- The rows by which rows were dropped in the rounds of lower rows: no lower row that is not gone beats them. Over any relation.
-- Assumes nothing.
use Rattle.std.specs.Prelude.{◌≡◌, true, false, List, ℕ, ◌<◌, ◌≤◌, get_or}
use Rattle.std.proofs.Common.{arith}
use Rattle.laws.specs.Order.{Rel}

-- Where `first` names a lower row for row j, that row beats it, and no row below that one that is not gone does.
pub record Firsts (beats : Rel ℕ) (n : ℕ) (gone first : List ℕ) : Type 0 where
  pub beaten : (j : ℕ) → j < n → get_or first j 0 < j → beats (get_or first j 0) j ≡ true
  pub lowest : (j : ℕ) → j < n → get_or first j 0 < j → (a : ℕ) → a < get_or first j 0 → get_or gone a 0 ≡ 0 → beats a j ≡ false

module _ (beats : Rel ℕ) (n : ℕ) where
  -- No lower row is named.
  pub firsts-start : (gone first : List ℕ) → ((j : ℕ) → j < n → j ≤ get_or first j 0) → Firsts beats n gone first
  firsts-start gone first none =
      record {
        beaten = λ j l h. absurd (omega (arith, none j l, h));
        lowest = λ j l h. absurd (omega (arith, none j l, h));
      }

  -- More rows are gone.
  pub firsts-less : (gone new first : List ℕ) → ((a : ℕ) → a < n → get_or new a 0 ≡ 0 → get_or gone a 0 ≡ 0)
      → Firsts beats n gone first → Firsts beats n new first
  firsts-less gone new first stay r =
      record {
        beaten = r.beaten;
        lowest = λ j l h a o z. r.lowest j l h a o (stay a (omega (arith, o, h, l)) z);
      }
