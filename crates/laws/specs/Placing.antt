-- One part placed before the other, and the two ranking equally (the third signed sentence): what each keeps within a
-- set. First over any relations, then on terms; the set is any relation between rows. Assumes nothing.
use Rattle.std.specs.Prelude.{◌≡◌, refl, ◌↔◌, true, false, ◌&&◌, ◌||◌}
use Rattle.std.proofs.Common.{sym, ◌∙◌, ⊎_elim}
use Rattle.std.proofs.Math.Path.{ap}
use Rattle.std.proofs.Math.Bool.{Bool, not}
use Rattle.std.proofs.lemmas.Bool.{false≢true, not-true}
use Prim.Native.Nat.{ℕ, ◌<◌}
use Rattle.model.specs.declared.Pair.{Pair}
use Rattle.model.specs.declared.Pair.TheVariants.{Pareto, Prior}
use Rattle.model.specs.Search.{any_below}
use Rattle.model.specs.Term.{Term, pair}
use Rattle.model.specs.Better.{Row, better}
use Rattle.model.specs.Query.{kept}
use Rattle.laws.specs.Bools.{and_l, and_r, and_i, or_cases, or_l, or_r, off, not-both, same_test}
use Rattle.laws.specs.Search.{any-i, any-e, none-i, any-ext}
use Rattle.laws.specs.Order.{Rel}
use Rattle.laws.specs.Joins.{prior, meet}
use Rattle.laws.specs.Ties.{joined, tied, better-pair}
use Rattle.laws.specs.Strict.{pareto-placings}
use Rattle.laws.specs.Select.{kept-i, kept-e, kept-ext}

-- ---- kept under a relation made of two

-- Beaten under both relations, but by no single row under both.
abbrev pub beaten_apart : ℕ → Rel ℕ → Rel ℕ → ℕ → Bool
beaten_apart n b₁ b₂ i = (not (kept n b₁ i) && not (kept n b₂ i)) && not (any_below n (λ j. b₁ j i && b₂ j i))

-- The same as a type.
abbrev pub BeatenApart : ℕ → Rel ℕ → Rel ℕ → ℕ → Type 0
BeatenApart n b₁ b₂ i =
    (kept n b₁ i ≡ false) × (kept n b₂ i ≡ false) × ((j : ℕ) → j < n → b₁ j i ≡ true → b₂ j i ≡ true → ⊥)

-- The test says what the type says.
pub beaten-apart : (n : ℕ) (b₁ b₂ : Rel ℕ) (i : ℕ) → (beaten_apart n b₁ b₂ i ≡ true) ↔ BeatenApart n b₁ b₂ i
beaten-apart n b₁ b₂ i = (
  λ h. let d = and_l _ (not (any_below n both)) h in (
    not-true (kept n b₁ i) (and_l _ (not (kept n b₂ i)) d),
    not-true (kept n b₂ i) (and_r (not (kept n b₁ i)) _ d),
    λ j m p q. not-both (and_r (not (kept n b₁ i) && not (kept n b₂ i)) _ h) (any-i n both j m (and_i p q)),
  ),
  λ h. and_i (and_i (ap not h.0) (ap not h.1))
      (ap not (none-i n both (λ j m e. h.2 j m (and_l _ (b₂ j i) e) (and_r (b₁ j i) _ e)))),
)
  where
    both : ℕ → Bool
    both j = b₁ j i && b₂ j i

module _ (n : ℕ) (b b₁ b₂ : Rel ℕ) (i : ℕ) where
  -- Beaten by either: kept exactly when kept under both.
  pub kept-or : ((j : ℕ) → b j i ≡ (b₁ j i || b₂ j i)) → kept n b i ≡ (kept n b₁ i && kept n b₂ i)
  kept-or e =
      same_test (kept n b i) (kept n b₁ i && kept n b₂ i)
      (λ k. and_i
      (kept-i n b₁ i (λ j m h. kept-e n b i k j m (e j ∙ or_l _ h)))
      (kept-i n b₂ i (λ j m h. kept-e n b i k j m (e j ∙ or_r (b₁ j i) h))))
      (λ k. kept-i n b i
      (λ j m h. ⊎_elim
      (kept-e n b₁ i (and_l _ (kept n b₂ i) k) j m)
      (kept-e n b₂ i (and_r (kept n b₁ i) _ k) j m)
      (or_cases (b₁ j i) (b₂ j i) (sym (e j) ∙ h))))

  -- Beaten by both at once: kept exactly when kept under one of them, or beaten under both but by no single row.
  pub kept_and : ((j : ℕ) → b j i ≡ (b₁ j i && b₂ j i)) → kept n b i ≡ ((kept n b₁ i || kept n b₂ i) || beaten_apart n b₁ b₂ i)
  unfolding kept
  kept_and e =
      ap not (any-ext n (λ j. b j i) both (λ j m. e j))
      ∙ law (any_below n (λ j. b₁ j i)) (any_below n (λ j. b₂ j i)) (any_below n both)
      (λ h. let v = any-e n both h in any-i n (λ j. b₁ j i) v.0 v.1 (and_l _ (b₂ v.0 i) v.2))
      (λ h. let v = any-e n both h in any-i n (λ j. b₂ j i) v.0 v.1 (and_r (b₁ v.0 i) _ v.2))
    where
      both : ℕ → Bool
      both j = b₁ j i && b₂ j i

      law : (p q r : Bool) → (r ≡ true → p ≡ true) → (r ≡ true → q ≡ true)
          → not r ≡ ((not p || not q) || ((not (not p) && not (not q)) && not r))
      law true true r f g = refl
      law true false r f g = ap not (off r (λ h. false≢true (g h)))
      law false q r f g = ap not (off r (λ h. false≢true (f h)))

-- ---- relations between things, and the rows that stand for them

-- Row j is in row i's set and better.
unfoldable pub beats_by : {A : Type 0} → Rel A → Rel A → (ℕ → A) → Rel ℕ
beats_by group b row j i = group (row i) (row j) && b (row i) (row j)

split : (g b e c : Bool) → (g && (b || (e && c))) ≡ ((g && b) || ((g && e) && c))
split true b e c = refl
split false b e c = refl

share : (g b c : Bool) → (g && (b && c)) ≡ ((g && b) && (g && c))
share true b c = refl
share false b c = refl

module _ {A : Type 0} (group : Rel A) (row : ℕ → A) where
  prior-beats : (bl el br : Rel A) (j i : ℕ)
      → beats_by group (prior bl el br) row j i ≡ (beats_by group bl row j i || beats_by (meet group el) br row j i)
  unfolding beats_by
  prior-beats bl el br j i = split (group (row i) (row j)) (bl (row i) (row j)) (el (row i) (row j)) (br (row i) (row j))

  meet-beats : (b c : Rel A) (j i : ℕ) → beats_by group (meet b c) row j i ≡ (beats_by group b row j i && beats_by group c row j i)
  unfolding beats_by
  meet-beats b c j i = share (group (row i) (row j)) (b (row i) (row j)) (c (row i) (row j))

  -- One before the other: kept by the first, and by the second among the rows of the set that are tied in the first.
  pub kept-prior : (bl el br : Rel A) (n i : ℕ)
      → kept n (beats_by group (prior bl el br) row) i
      ≡ (kept n (beats_by group bl row) i && kept n (beats_by (meet group el) br row) i)
  kept-prior bl el br n i =
      kept-or n (beats_by group (prior bl el br) row) (beats_by group bl row) (beats_by (meet group el) br row) i
      (λ j. prior-beats bl el br j i)

  -- Better by both relations at once: PARETO by its two placings, BOTH by its parts.
  pub kept-meet : (b c : Rel A) (n i : ℕ)
      → kept n (beats_by group (meet b c) row) i
      ≡ ((kept n (beats_by group b row) i || kept n (beats_by group c row) i)
      || beaten_apart n (beats_by group b row) (beats_by group c row) i)
  kept-meet b c n i =
      kept_and n (beats_by group (meet b c) row) (beats_by group b row) (beats_by group c row) i (λ j. meet-beats b c j i)

  -- The same relation, said otherwise.
  pub kept_by : (b c : Rel A) → ((x y : A) → b x y ≡ c x y) → (n i : ℕ)
      → kept n (beats_by group b row) i ≡ kept n (beats_by group c row) i
  unfolding beats_by
  kept_by b c e n i = kept-ext n (beats_by group b row) (beats_by group c row) i (λ j h. rw (e (row i) (row j)))

-- ---- terms

-- Which kind ranks two parts equally, which places one before the other, and that both read the same tie of a part.
pub record Placing (equally first : Pair) : Type 0 where
  pub is-first : (bl el br er : Bool) → joined first bl el br er ≡ (bl || (el && br))
  pub is-both : (bl el br er : Bool) → joined equally bl el br er ≡ (joined first bl el br er && joined first br er bl el)
  pub same-tie : (t : Term) (x y : Row) → tied equally t x y ≡ tied first t x y

-- PARETO and PRIOR.
pub plain : Placing Pareto Prior
unfolding joined tied
plain = record { is-first = λ bl el br er. refl; is-both = pareto-placings; same-tie = λ t x y. refl }

module _ (equally first : Pair) (p : Placing equally first) (l r : Term) where
  -- Better in the left, or tied there and better in the right.
  pub better-first : (x y : Row) → better (pair first l r) x y ≡ prior (better l) (tied first l) (better r) x y
  better-first x y =
      better-pair first l r x y ∙ p.is-first (better l x y) (tied first l x y) (better r x y) (tied first r x y)

  -- Better under both placings.
  pub better-equally : (x y : Row)
      → better (pair equally l r) x y ≡ meet (better (pair first l r)) (better (pair first r l)) x y
  better-equally x y =
      better-pair equally l r x y
      ∙ p.is-both (better l x y) (tied equally l x y) (better r x y) (tied equally r x y)
      ∙ rw (p.same-tie l x y, p.same-tie r x y, better-pair first l r x y, better-pair first r l x y)

  module _ (group : Rel Row) (row : ℕ → Row) (n i : ℕ) where
    -- One part before the other: kept by the first, and by the second among the rows of the set that are tied in the
    -- first.
    pub kept-first : kept n (beats_by group (better (pair first l r)) row) i
        ≡ (kept n (beats_by group (better l) row) i && kept n (beats_by (meet group (tied first l)) (better r) row) i)
    kept-first =
        kept_by group row (better (pair first l r)) (prior (better l) (tied first l) (better r)) better-first n i
        ∙ kept-prior group row (better l) (tied first l) (better r) n i

    -- The two ranking equally: kept by one of the placings, or beaten under both but by no single row under both.
    pub kept-equally : kept n (beats_by group (better (pair equally l r)) row) i
        ≡ ((kept n (beats_by group (better (pair first l r)) row) i
        || kept n (beats_by group (better (pair first r l)) row) i)
        || beaten_apart n (beats_by group (better (pair first l r)) row) (beats_by group (better (pair first r l)) row) i)
    kept-equally =
        kept_by group row (better (pair equally l r)) (meet (better (pair first l r)) (better (pair first r l)))
        better-equally n i
        ∙ kept-meet group row (better (pair first l r)) (better (pair first r l)) n i
