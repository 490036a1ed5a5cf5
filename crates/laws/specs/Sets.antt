-- The report's decompositions of a query (its section 5), for the rows of a set (Proposition 11 is `chain-prior` of
-- Cascade). As the specification decides, and not as in Definition 17, only rows of the set count as common betters.
-- Assumes nothing.
use Rattle.std.specs.Prelude.{◌≡◌, Bool, ◌&&◌, ◌||◌, List, ℕ, ℤ}
use Rattle.std.proofs.Common.{sym, ◌∙◌, ap}
use Rattle.std.proofs.lemmas.Bool.{false≢true}
use Rattle.std.proofs.Math.Bool.{and-or_distrib_left}
use Rattle.std.specs.Int.Bits.{bit_or, or_zero_l}
use Rattle.model.specs.declared.Pair.TheVariants.{Pareto, Prior, Both}
use Rattle.model.specs.Term.{Term, pair, columns_of}
use Rattle.model.specs.Better.{Row, equal_in, better}
use Rattle.model.specs.Query.{kept, row_count, row_at, beats_in}
use Rattle.laws.specs.Equivalence.{Equivalent, Antichain}
use Rattle.laws.specs.Select.{kept-ext, kept-i}
use Rattle.laws.specs.Placing.{beaten_apart, kept-or}
use Rattle.laws.specs.Rows.{beats-better, kept-prior-rows, kept-pareto-rows, kept-both-rows, kept-among}

module _ (columns : ℕ) (rows : List ℤ) where
  -- σ[P](R): the rows that the term keeps, all rows one set (Definition 15).
  abbrev pub selected : Term → ℕ → Bool
  selected t i = kept (row_count columns rows) (beats_in t columns rows 0) i

  -- σ[P groupby A](R): the rows that it keeps among those equal in the columns of a mask (Definition 16).
  abbrev pub selected_by : Term → ℕ → ℕ → Bool
  selected_by t mask i = kept (row_count columns rows) (beats_in t columns rows mask) i

  -- YY(P1, P2) of R: rows that are maximal for neither, and no row of R is better under both (Definition 17 c).
  abbrev pub apart : Term → Term → ℕ → Bool
  apart p1 p2 i = beaten_apart (row_count columns rows) (beats_in p1 columns rows 0) (beats_in p2 columns rows 0) i

  abbrev row : ℕ → Row
  row = row_at columns rows

  -- Proposition 7: if P1 ≡ P2, then for all R: σ[P1](R) = σ[P2](R).
  pub selected-same : (p1 p2 : Term) → Equivalent p1 p2 → (i : ℕ) → selected p1 i ≡ selected p2 i
  unfolding beats_in
  selected-same p1 p2 e i =
      kept-ext (row_count columns rows) (beats_in p1 columns rows 0) (beats_in p2 columns rows 0) i
      (λ j h. rw (e.same (row i) (row j)))

  -- Proposition 8: σ[P1 + P2](R) = σ[P1](R) ∩ σ[P2](R). No term is a union, so P is any term that is one.
  pub selected-union : (p p1 p2 : Term) → ((x y : Row) → better p x y ≡ (better p1 x y || better p2 x y)) → (i : ℕ)
      → selected p i ≡ (selected p1 i && selected p2 i)
  unfolding beats_in
  selected-union p p1 p2 e i =
      kept-or (row_count columns rows) (beats_in p columns rows 0) (beats_in p1 columns rows 0) (beats_in p2 columns rows 0) i
      (λ j. rw (e (row i) (row j))
      (and-or_distrib_left (equal_in 0 (row i) (row j)) (better p1 (row i) (row j)) (better p2 (row i) (row j))))

  -- Proposition 9: σ[P1 ♦ P2](R) = σ[P1](R) ∪ σ[P2](R) ∪ YY(P1, P2) of R.
  pub selected-both : (p1 p2 : Term) (i : ℕ)
      → selected (pair Both p1 p2) i ≡ ((selected p1 i || selected p2 i) || apart p1 p2 i)
  selected-both p1 p2 i = kept-both-rows columns rows 0 p1 p2 (row_count columns rows) i

  ungrouped : (p1 p2 : Term) (i : ℕ) → selected_by p2 (bit_or 0 (columns_of p1)) i ≡ selected_by p2 (columns_of p1) i
  ungrouped p1 p2 i = ap (λ (mask : ℕ). selected_by p2 mask i) (or_zero_l (columns_of p1))

  -- Proposition 10: σ[P1 & P2](R) = σ[P1](R) ∩ σ[P2 groupby A1](R). The columns need not be disjoint, as PRIOR is the
  -- specification's plain union.
  pub selected-prior : (p1 p2 : Term) (i : ℕ)
      → selected (pair Prior p1 p2) i ≡ (selected p1 i && selected_by p2 (columns_of p1) i)
  selected-prior p1 p2 i =
      kept-prior-rows columns rows 0 p1 p2 (row_count columns rows) i
      ∙ ap (λ (b : Bool). selected p1 i && b) (kept-among columns rows 0 p1 p2 (row_count columns rows) i ∙ ungrouped p1 p2 i)

  -- Proposition 12: σ[P1 ⊗ P2](R) = (σ[P1](R) ∩ σ[P2 groupby A1](R)) ∪ (σ[P2](R) ∩ σ[P1 groupby A2](R))
  -- ∪ YY(P1 & P2, P2 & P1) of R.
  pub selected-pareto : (p1 p2 : Term) (i : ℕ)
      → selected (pair Pareto p1 p2) i
      ≡ (((selected p1 i && selected_by p2 (columns_of p1) i) || (selected p2 i && selected_by p1 (columns_of p2) i))
      || apart (pair Prior p1 p2) (pair Prior p2 p1) i)
  selected-pareto p1 p2 i =
      kept-pareto-rows columns rows 0 p1 p2 (row_count columns rows) i
      ∙ ap (λ (b : Bool). (b || selected (pair Prior p2 p1) i) || apart (pair Prior p1 p2) (pair Prior p2 p1) i)
      (selected-prior p1 p2 i)
      ∙ ap (λ (b : Bool). (selected p1 i && selected_by p2 (columns_of p1) i || b)
      || apart (pair Prior p1 p2) (pair Prior p2 p1) i) (selected-prior p2 p1 i)

  -- Definition 16: σ[P groupby A](R) = σ[A↔ & P](R), where A↔ is an anti-chain on the columns A.
  pub selected-group : (a p : Term) → Antichain a → (i : ℕ) → selected_by p (columns_of a) i ≡ selected (pair Prior a p) i
  selected-group a p none i =
      sym
      (selected-prior a p i
      ∙ ap (λ (b : Bool). b && selected_by p (columns_of a) i)
      (kept-i (row_count columns rows) (beats_in a columns rows 0) i
      (λ j h b. false≢true (sym (none (row i) (row j)) ∙ beats-better columns rows 0 a j i b))))
