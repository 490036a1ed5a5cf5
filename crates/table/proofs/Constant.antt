-- A constant table's rule, proved at all of its entries by one equation that antt computes: the table is the list of the rule's values.
-- Assumes nothing.
use mathlib.Core.Path.{◌≡◌, ◌∙◌, ap, sym}
use mathlib.Core.List.{List, [], ◌∷◌}
use Prim.Native.Nat.{ℕ, zero, suc, ◌+◌, ◌<◌}
use native.Mathlib.Nat.{add-zero, zero-add, add-suc, suc-add, le_of_suc-le-suc, not-suc-le-zero}
use lib.ListN.{get_or}

module _ {A : Type 0} (f : ℕ → A) where
  -- f at i, i + 1, .., n values
  abbrev pub values : ℕ → ℕ → List A
  values i zero = []
  values i (suc n) = f i ∷ values (suc i) n

  at-values : (n i k : ℕ) (d : A) → k < n → get_or (values i n) k d ≡ f (i + k)
  at-values zero i k d h = absurd (not-suc-le-zero h)
  at-values (suc n) i zero d h = ap f (sym (add-zero i))
  at-values (suc n) i (suc k) d h = at-values n (suc i) k d (le_of_suc-le-suc h) ∙ ap f (suc-add i k ∙ sym (add-suc i k))

  -- at each place k below n there is f k. Where a goal has a constant table in place of `values 0 n`, antt computes that the two are the same
  pub rule-at : (n k : ℕ) (d : A) → k < n → get_or (values 0 n) k d ≡ f k
  rule-at n k d h = at-values n 0 k d h ∙ ap f (zero-add k)
