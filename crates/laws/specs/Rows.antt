-- The rows that a term keeps within the groups of a group byte (SPECIFICATION, "Query" and "The third promise, word by
-- word"). Assumes nothing.
use Rattle.std.specs.Prelude.{◌≡◌, Bool, true, false, ◌&&◌, ◌||◌, List, ℕ, ℤ}
use Rattle.std.proofs.Math.Path.{refl}
use Rattle.std.specs.Int.Bits.{bit_or}
use Rattle.model.specs.declared.Pair.TheVariants.{Pareto, Prior, Both}
use Rattle.model.specs.Term.{Term, pair, columns_of}
use Rattle.model.specs.Better.{Row, equal_in, equal, better}
use Rattle.model.specs.Query.{kept, row_at, beats_in}
use Rattle.laws.specs.Bools.{and_l, and_r, and_i}
use Rattle.laws.specs.Order.{Rel, Strict}
use Rattle.laws.specs.Joins.{meet}
use Rattle.laws.specs.Masks.{equal_in-trans, equal_in-or}
use Rattle.laws.specs.Ties.{tied}
use Rattle.laws.specs.Select.{kept-ext}
use Rattle.laws.specs.Placing.{beats_by, beaten_apart, kept-meet, plain, kept-first, kept-equally}

-- Row j is in row i's set, equals it in the first's columns and is better under the second.
abbrev pub beats_among : Term → Term → ℕ → List ℤ → ℕ → Rel ℕ
beats_among first second columns rows group j i =
    equal first (row_at columns rows i) (row_at columns rows j) && beats_in second columns rows group j i

turn : (e g b : Bool) → (e && (g && b)) ≡ ((g && e) && b)
turn true true b = refl
turn true false b = refl
turn false true b = refl
turn false false b = refl

module _ (columns : ℕ) (rows : List ℤ) (group : ℕ) where
  abbrev row : ℕ → Row
  row = row_at columns rows

  -- The group byte is one instance of a group.
  pub beats-by : (t : Term) (j i : ℕ) → beats_in t columns rows group j i ≡ beats_by (equal_in group) (better t) row j i
  unfolding beats_in beats_by
  beats-by t j i = refl

  -- What beats a row is in its group,
  pub beats-group : (t : Term) (j i : ℕ) → beats_in t columns rows group j i ≡ true → equal_in group (row i) (row j) ≡ true
  unfolding beats_in
  beats-group t j i h = and_l _ (better t (row i) (row j)) h

  -- is better,
  pub beats-better : (t : Term) (j i : ℕ) → beats_in t columns rows group j i ≡ true → better t (row i) (row j) ≡ true
  unfolding beats_in
  beats-better t j i h = and_r (equal_in group (row i) (row j)) _ h

  -- and only such a row beats it.
  pub beats-i : (t : Term) (j i : ℕ) → equal_in group (row i) (row j) ≡ true → better t (row i) (row j) ≡ true
      → beats_in t columns rows group j i ≡ true
  unfolding beats_in
  beats-i t j i g b = and_i g b

  -- None is better than itself, and better than better is better, within a group.
  pub beats-strict : (t : Term) → Strict (better t) → Strict (beats_in t columns rows group)
  beats-strict t s =
      record {
        irrefl = λ i h. s.irrefl (row i) (beats-better t i i h);
        trans = λ i j k h m. beats-i t i k
            (equal_in-trans group (row k) (row j) (row i) (beats-group t j k m) (beats-group t i j h))
            (s.trans (row k) (row j) (row i) (beats-better t j k m) (beats-better t i j h));
      }

  among-as : (l r : Term) (n i : ℕ)
      → kept n (beats_among l r columns rows group) i ≡ kept n (beats_by (meet (equal_in group) (equal l)) (better r) row) i
  unfolding beats_in beats_by
  among-as l r n i =
      kept-ext n (beats_among l r columns rows group) (beats_by (meet (equal_in group) (equal l)) (better r) row) i
      (λ j h. turn (equal l (row i) (row j)) (equal_in group (row i) (row j)) (better r (row i) (row j)))

  -- PRIOR: kept by the left, and by the right among the rows of the group that are equal in the left's columns.
  pub kept-prior-rows : (l r : Term) (n i : ℕ)
      → kept n (beats_in (pair Prior l r) columns rows group) i
      ≡ (kept n (beats_in l columns rows group) i && kept n (beats_among l r columns rows group) i)
  unfolding beats_in beats_by tied
  kept-prior-rows l r n i = rw (among-as l r n i) (kept-first Pareto Prior plain l r (equal_in group) row n i)

  -- PARETO: kept by one of the placings, or beaten under both but by no single row of the group under both.
  pub kept-pareto-rows : (l r : Term) (n i : ℕ)
      → kept n (beats_in (pair Pareto l r) columns rows group) i
      ≡ ((kept n (beats_in (pair Prior l r) columns rows group) i || kept n (beats_in (pair Prior r l) columns rows group) i)
      || beaten_apart n (beats_in (pair Prior l r) columns rows group) (beats_in (pair Prior r l) columns rows group) i)
  unfolding beats_in beats_by
  kept-pareto-rows l r n i = kept-equally Pareto Prior plain l r (equal_in group) row n i

  -- BOTH: kept by one of the parts, or beaten under both but by no single row of the group under both.
  pub kept-both-rows : (l r : Term) (n i : ℕ)
      → kept n (beats_in (pair Both l r) columns rows group) i
      ≡ ((kept n (beats_in l columns rows group) i || kept n (beats_in r columns rows group) i)
      || beaten_apart n (beats_in l columns rows group) (beats_in r columns rows group) i)
  unfolding beats_in beats_by better
  kept-both-rows l r n i = kept-meet (equal_in group) row (better l) (better r) n i

  -- Kept among the rows equal in the first's columns: the bits of those columns set in the group byte too.
  pub kept-among : (l r : Term) (n i : ℕ)
      → kept n (beats_among l r columns rows group) i ≡ kept n (beats_in r columns rows (bit_or group (columns_of l))) i
  unfolding beats_in equal
  kept-among l r n i =
      kept-ext n (beats_among l r columns rows group) (beats_in r columns rows (bit_or group (columns_of l))) i
      (λ j h. rw (equal_in-or group (columns_of l) (row i) (row j))
      (turn (equal_in (columns_of l) (row i) (row j)) (equal_in group (row i) (row j)) (better r (row i) (row j))))
