-- What the two parts of a record keep, ranking equally (the third signed sentence; SPECIFICATION, "The third promise,
-- word by word"). Assumes nothing.
use Rattle.std.specs.Prelude.{◌≡◌, refl, ◌⊎◌, ◌↔◌, Bool, true, false, not, ◌&&◌, ◌||◌, List, ℕ, ◌<◌, ℤ}
use Rattle.std.proofs.Common.{sym, ◌∙◌, inl, inr, true≢false}
use Rattle.std.proofs.lemmas.Bool.{false≢true}
use Rattle.model.specs.Search.{any_below}
use Rattle.model.specs.Term.{term_at}
use Rattle.model.specs.Query.{row_count, beats_in}
use Rattle.model.specs.Demand.{left_first, right_first, equally, keeps}
use Rattle.laws.specs.Bools.{and_l, and_r, and_i, off}
use Rattle.laws.specs.Search.{any-i, none-i}
use Rattle.laws.proofs.Answered.{keeps-unbeaten}
use Rattle.laws.proofs.TwoParts.{ranked-equally-keeps}
use Rattle.theorems.specs.Asked.{Asked, AskedTwo, Long, BeatenBy, Beaten, BeatenApart}
use Rattle.theorems.specs.Dropped.{beaten-by, by-beaten}
use Rattle.theorems.proofs.Dropped.{query-passes, dropped-beaten-by-kept}
use Rattle.theorems.proofs.Placed.{whole, left-placed, right-placed}

-- When the tests of the law pass.
cases : (l r both : Bool) → (((l || r) || ((not l && not r) && not both)) ≡ true)
    ↔ ((l ≡ true) ⊎ ((r ≡ true) ⊎ ((l ≡ false) × (r ≡ false) × (both ≡ false))))
cases true r both = (λ e. inl refl, λ e. refl)
cases false true both = (λ e. inr (inl refl), λ e. refl)
cases false false true = (λ e. absurd (false≢true e), none)
  where
    none : (false ≡ true) ⊎ ((false ≡ true) ⊎ ((false ≡ false) × (false ≡ false) × (true ≡ false))) → false ≡ true
    none (inl e) = e
    none (inr (inl e)) = e
    none (inr (inr e)) = absurd (true≢false e.2)
cases false false false = (λ e. inr (inr (refl, refl, refl)), λ e. refl)

third : {A B C D : Type 0} → (C → D) → A ⊎ (B ⊎ C) → A ⊎ (B ⊎ D)
third f (inl a) = inl a
third f (inr (inl b)) = inr (inl b)
third f (inr (inr c)) = inr (inr (f c))

-- A row is dropped exactly where it is beaten.
beaten-exactly : (table : List ℕ) (columns : ℕ) (rows : List ℤ) (term group : ℕ) → Asked table columns rows term group
    → (before : List ℕ) → Long columns rows before → (i : ℕ) → i < row_count columns rows
    → (keeps table columns rows term group before i ≡ false) ↔ Beaten table columns rows term group i
beaten-exactly table columns rows term group asked before long i row = (
  λ d. let v = dropped-beaten-by-kept table columns rows term group asked before long i row d in (v.0, v.1),
  λ v. off (keeps table columns rows term group before i)
      (λ e. (keeps-unbeaten table columns rows term group before
      (query-passes table columns rows term group asked before long) i row).0 e v.0 v.1.is_row
      (by-beaten table columns rows term group i v.0 v.1)),
)

module _ (table : List ℕ) (columns : ℕ) (rows : List ℤ) (k group : ℕ) (asked : AskedTwo table columns rows k group)
    (i : ℕ) (row : i < row_count columns rows) where
  abbrev left : List ℕ
  left = left_first table k

  abbrev right : List ℕ
  right = right_first table k

  abbrev under : List ℕ → ℕ → Bool
  under placing j = beats_in (term_at placing k) columns rows group j i

  abbrev both : Bool
  both = any_below (row_count columns rows) (λ j. under left j && under right j)

  -- No row beats it under both.
  single : (both ≡ false)
      ↔ ((j : ℕ) → BeatenBy left columns rows k group i j → BeatenBy right columns rows k group i j → ⊥)
  single = (
    λ e j u v. false≢true (sym e ∙ any-i (row_count columns rows) (λ j. under left j && under right j) j u.is_row
        (and_i (by-beaten left columns rows k group i j u) (by-beaten right columns rows k group i j v))),
    λ f. none-i (row_count columns rows) (λ j. under left j && under right j)
        (λ j h e. f j (beaten-by left columns rows k group i j h (and_l _ (under right j) e))
        (beaten-by right columns rows k group i j h (and_r (under left j) _ e))),
  )

  -- They keep a row exactly when at least one of the two placings keeps it, or when it is beaten under both placings but by
  -- no single row of the set under both.
  pub pareto-keeps : (a b c : List ℕ) → Long columns rows a → Long columns rows b → Long columns rows c
      → (keeps (equally table k) columns rows k group a i ≡ true)
      ↔ ((keeps (left_first table k) columns rows k group b i ≡ true)
      ⊎ ((keeps (right_first table k) columns rows k group c i ≡ true)
      ⊎ BeatenApart (left_first table k) (right_first table k) columns rows k group i))
  pareto-keeps a b c la lb lc = (
    λ e. third (λ t. record { under_left = l.0 t.0; under_right = r.0 t.1; no_single = single.0 t.2 })
        (law.0 (sym same ∙ e)),
    λ w. same ∙ law.1 (third (λ t. (l.1 t.under_left, r.1 t.under_right, single.1 t.no_single)) w),
  )
    where
      l : (keeps left columns rows k group b i ≡ false) ↔ Beaten left columns rows k group i
      l = beaten-exactly left columns rows k group (left-placed table columns rows k group asked) b lb i row

      r : (keeps right columns rows k group c i ≡ false) ↔ Beaten right columns rows k group i
      r = beaten-exactly right columns rows k group (right-placed table columns rows k group asked) c lc i row

      same : keeps (equally table k) columns rows k group a i
          ≡ ((keeps left columns rows k group b i || keeps right columns rows k group c i)
          || ((not (keeps left columns rows k group b i) && not (keeps right columns rows k group c i)) && not both))
      same =
          ranked-equally-keeps table columns rows k group a
          (query-passes table columns rows k group (whole table columns rows k group asked) a la)
          asked.two_parts i row a b c la lb lc

      law : (((keeps left columns rows k group b i || keeps right columns rows k group c i)
          || ((not (keeps left columns rows k group b i) && not (keeps right columns rows k group c i)) && not both)) ≡ true)
          ↔ ((keeps left columns rows k group b i ≡ true)
          ⊎ ((keeps right columns rows k group c i ≡ true)
          ⊎ ((keeps left columns rows k group b i ≡ false) × (keeps right columns rows k group c i ≡ false)
          × (both ≡ false))))
      law = cases (keeps left columns rows k group b i) (keeps right columns rows k group c i) both
