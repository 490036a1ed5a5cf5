-- The query by parts (the customer's point B): which rows a term keeps, from which rows its parts keep, down to the base
-- terms. DUALs are taken down to the base terms first. Assumes nothing.
use Rattle.std.specs.Prelude.{◌≡◌, Bool, not, cond, ◌&&◌, ◌||◌, List, ℕ, ℤ}
use Rattle.std.proofs.Math.Path.{refl}
use Rattle.std.proofs.Common.{sym, ◌∙◌}
use Rattle.std.proofs.Math.Bool.{true, false}
use Rattle.std.specs.Int.Bits.{bit_or}
use Rattle.model.specs.declared.{Pair.Pair}
use Rattle.model.specs.declared.Pair.TheVariants.{Pareto, Prior, Both}
use Rattle.model.specs.Term.{Term, base, pair, dual, columns_of}
use Rattle.model.specs.Better.{Row, equal, better}
use Rattle.model.specs.Query.{kept, row_at, beats_in}
use Rattle.laws.specs.Columns.{equal-columns, equal-comm}
use Rattle.laws.specs.Ties.{joined, tied, better-pair, better-dual}
use Rattle.laws.specs.Select.{kept-ext}
use Rattle.laws.specs.Placing.{beaten_apart}
use Rattle.laws.specs.Rows.{kept-prior-rows, kept-pareto-rows, kept-both-rows, kept-among}

-- The term with its DUALs taken down to the base terms; `odd` tells an odd number of them above.
unfoldable pub pushed : (odd : Bool) → Term → Term
pushed true (base column b values) = dual (base column b values)
pushed false (base column b values) = base column b values
pushed odd (pair op l r) = pair op (pushed odd l) (pushed odd r)
pushed odd (dual t) = pushed (not odd) t

-- It reads the same columns.
pub pushed-columns : (odd : Bool) (t : Term) → columns_of (pushed odd t) ≡ columns_of t
unfolding pushed columns_of
pushed-columns true (base column b values) = refl
pushed-columns false (base column b values) = refl
pushed-columns odd (pair op l r) = rw (pushed-columns odd l, pushed-columns odd r)
pushed-columns odd (dual t) = pushed-columns (not odd) t

-- Turned round where the flag is set.
abbrev pub turned : Bool → (Row → Row → Bool) → Row → Row → Bool
turned odd f x y = cond odd (f y x) (f x y)

module _ (odd : Bool) (op : Pair) (l r : Term) (x y : Row) where
  pushed-tied : (t : Term) → tied op (pushed odd t) x y ≡ turned odd (tied op t) x y
  unfolding tied
  pushed-tied t = equal-columns (pushed odd t) t (pushed-columns odd t) x y ∙ go odd
    where
      go : (b : Bool) → equal t x y ≡ turned b (equal t) x y
      go true = equal-comm t x y
      go false = refl

  pushed-pair : better (pushed odd l) x y ≡ turned odd (better l) x y
      → better (pushed odd r) x y ≡ turned odd (better r) x y
      → better (pair op (pushed odd l) (pushed odd r)) x y ≡ turned odd (better (pair op l r)) x y
  pushed-pair p q =
      better-pair op (pushed odd l) (pushed odd r) x y
      ∙ rw (p, q, pushed-tied l, pushed-tied r) (go odd)
    where
      go : (b : Bool)
          → joined op (turned b (better l) x y) (turned b (tied op l) x y) (turned b (better r) x y) (turned b (tied op r) x y)
          ≡ turned b (better (pair op l r)) x y
      go true = sym (better-pair op l r y x)
      go false = sym (better-pair op l r x y)

-- It is the same order, or the order turned round.
pub pushed-better : (odd : Bool) (t : Term) (x y : Row) → better (pushed odd t) x y ≡ turned odd (better t) x y
unfolding pushed
pushed-better true (base column b values) x y = better-dual (base column b values) x y
pushed-better false (base column b values) x y = refl
pushed-better odd (pair op l r) x y = pushed-pair odd op l r x y (pushed-better odd l x y) (pushed-better odd r x y)
pushed-better true (dual t) x y = pushed-better false t x y ∙ sym (better-dual t y x)
pushed-better false (dual t) x y = pushed-better true t x y ∙ sym (better-dual t x y)

-- ---- kept, by parts

module _ (columns : ℕ) (rows : List ℤ) (n : ℕ) where
  -- Rows kept by a part alone: PRIOR asks the right within the groups of the left's columns too.
  unfoldable pub kept_by_term : (odd : Bool) → Term → (group i : ℕ) → Bool
  kept_by_term odd (base column b values) group i = kept n (beats_in (pushed odd (base column b values)) columns rows group) i
  kept_by_term odd (pair Pareto l r) group i =
      ((kept_by_term odd l group i && kept_by_term odd r (bit_or group (columns_of l)) i)
      || (kept_by_term odd r group i && kept_by_term odd l (bit_or group (columns_of r)) i))
      || beaten_apart n (beats_in (pair Prior (pushed odd l) (pushed odd r)) columns rows group)
      (beats_in (pair Prior (pushed odd r) (pushed odd l)) columns rows group) i
  kept_by_term odd (pair Prior l r) group i = kept_by_term odd l group i && kept_by_term odd r (bit_or group (columns_of l)) i
  kept_by_term odd (pair Both l r) group i =
      (kept_by_term odd l group i || kept_by_term odd r group i)
      || beaten_apart n (beats_in (pushed odd l) columns rows group) (beats_in (pushed odd r) columns rows group) i
  kept_by_term odd (dual t) group i = kept_by_term (not odd) t group i

  -- PRIOR by its parts.
  prior-parts : (odd : Bool) (l r : Term) (group i : ℕ)
      → kept n (beats_in (pair Prior (pushed odd l) (pushed odd r)) columns rows group) i
      ≡ (kept n (beats_in (pushed odd l) columns rows group) i
      && kept n (beats_in (pushed odd r) columns rows (bit_or group (columns_of l))) i)
  prior-parts odd l r group i =
      kept-prior-rows columns rows group (pushed odd l) (pushed odd r) n i
      ∙ rw (kept-among columns rows group (pushed odd l) (pushed odd r) n i, pushed-columns odd l)

  by_parts : (odd : Bool) (t : Term) (group i : ℕ)
      → kept n (beats_in (pushed odd t) columns rows group) i ≡ kept_by_term odd t group i
  unfolding kept_by_term pushed
  by_parts odd (base column b values) group i = refl
  by_parts odd (pair Pareto l r) group i =
      kept-pareto-rows columns rows group (pushed odd l) (pushed odd r) n i
      ∙ rw (
        prior-parts odd l r group i,
        prior-parts odd r l group i,
        by_parts odd l group i,
        by_parts odd r (bit_or group (columns_of l)) i,
        by_parts odd r group i,
        by_parts odd l (bit_or group (columns_of r)) i,
      )
  by_parts odd (pair Prior l r) group i =
      prior-parts odd l r group i ∙ rw (by_parts odd l group i, by_parts odd r (bit_or group (columns_of l)) i)
  by_parts odd (pair Both l r) group i =
      kept-both-rows columns rows group (pushed odd l) (pushed odd r) n i ∙ rw (by_parts odd l group i, by_parts odd r group i)
  by_parts odd (dual t) group i = by_parts (not odd) t group i

  -- By parts the same rows are kept.
  pub kept-by-parts : (t : Term) (group i : ℕ) → kept n (beats_in t columns rows group) i ≡ kept_by_term false t group i
  unfolding beats_in
  kept-by-parts t group i =
      kept-ext n (beats_in t columns rows group) (beats_in (pushed false t) columns rows group) i
      (λ j h. rw (pushed-better false t (row_at columns rows i) (row_at columns rows j)))
      ∙ by_parts false t group i
