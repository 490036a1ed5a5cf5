-- Marks of the rows that are left, as tests of their numbers. Assumes nothing.
use mathlib.Core.Path.{◌≡◌, refl, ◌∙◌}
use mathlib.Core.Logic.{⊎_elim}
use mathlib.Core.Bool.{Bool, false}
use mathlib.Core.List.{List, [], ◌∷◌}
use Prim.Native.Nat.{ℕ, zero, suc, ◌+◌, ◌*◌, ◌-◌, ◌<◌, ◌≤◌}
use native.Mathlib.Nat.{mul-le-mul_right, mul-le-mul}
use native.Mathlib.Omega.{arith}
use lib.Dec.{ltb}
use lib.IntN.{ℤ}
use lib.ListN.{length, get_or, take, drop, replicate, length-drop}
use lib.Seq.{take_all}
use borrow.Author.Tests.{ltb-true, ltb-false}
use Rattle.model.specs.Query.{query_buffer}
use Rattle.model.specs.Demand.{keeps}
use Rattle.model.specs.Leaving.{by_catalogue}
use Rattle.laws.specs.Bools.{on-or-off}
use Rattle.laws.specs.Wrote.{Wrote}
use Rattle.demands.specs.Leaving.{holds_own, marked, spared, kept_by_split}
use Rattle.demands.specs.Gathered.{Run}

-- An entry that is there is the same whatever stands for one that is not.
pub any-default : {A : Type 0} (l : List A) (i : ℕ) (d e : A) → i < length l → get_or l i d ≡ get_or l i e
any-default [] i d e h = absurd (omega arith)
any-default (x ∷ xs) zero d e h = refl
any-default (x ∷ xs) (suc i) d e h = any-default xs i d e (omega arith)

-- The first n marks that were written.
marks-made : (f : ℕ → Bool) (n : ℕ) (before after : List Bool) → Wrote false f 0 n before after
    → (i : ℕ) → i < n → marked after i ≡ f i
unfolding marked
marks-made f n before after w i h = let z : 0 + i ≡ i = omega arith in rw z at (w.made i h)

-- A row that holds its own number after a query is kept by it.
holds-keeps : (table : List ℕ) (columns : ℕ) (rows : List ℤ) (term group : ℕ) (before after : List ℕ)
    → after ≡ query_buffer table columns rows term group before → (i : ℕ)
    → holds_own after i ≡ keeps table columns rows term group before i
unfolding holds_own keeps
holds-keeps table columns rows term group before after e i = rw e

-- The marks of the rows that are kept or spared.
pub marks-spared : (table : List ℕ) (columns : ℕ) (rows : List ℤ) (term group : ℕ) (before after out : List ℕ) (n : ℕ)
    (unmarked stay : List Bool) → after ≡ query_buffer table columns rows term group before
    → Wrote false (spared (holds_own after) out) 0 n unmarked stay
    → (i : ℕ) → i < n → marked stay i ≡ spared (keeps table columns rows term group before) out i
unfolding spared
marks-spared table columns rows term group before after out n unmarked stay e w i h =
    marks-made (spared (holds_own after) out) n unmarked stay w i h
    ∙ rw (holds-keeps table columns rows term group before after e i)

-- Two catalogues in one run: where the second begins.
module _ (columns : ℕ) (rows : List ℤ) (n first : ℕ) (r : Run columns rows n) (h : first ≤ n) where
  pub cut_in : first * columns ≤ length rows
  cut_in = rw r.run (mul-le-mul_right columns h)

  pub cut_small : first * columns ≤ 8192
  cut_small = let s : n * columns ≤ 1024 * 8 = mul-le-mul r.most r.few in omega (arith, s, cut_in, r.run)

-- The part of a run from a place to its end.
the_rest : (rows : List ℤ) (k : ℕ) → take (length rows - k) (drop k rows) ≡ drop k rows
the_rest rows k = take_all (length rows - k) (drop k rows) (omega (arith, length-drop k rows))

-- The marks of the rows that are kept by two queries.
pub marks-apart : (table : List ℕ) (columns : ℕ) (rows : List ℤ) (n first term group : ℕ) (e e' : List ℕ)
    (unmarked some all : List Bool)
    → e ≡ query_buffer table columns (take (first * columns) rows) term group (replicate 1024 0)
    → Wrote false (holds_own e) 0 first unmarked some
    → e' ≡ query_buffer table columns (take (length rows - first * columns) (drop (first * columns) rows)) term group e
    → Wrote false (holds_own e') first (n - first) some all
    → (i : ℕ) → i < n → marked all i ≡ kept_by_split table columns rows first term group i
unfolding marked kept_by_split by_catalogue
marks-apart table columns rows n first term group e e' unmarked some all q w q' w' i h =
    let zeros : List ℕ = replicate 1024 0 in
    let d : e' ≡ query_buffer table columns (drop (first * columns) rows) term group e =
    rw (the_rest rows (first * columns)) at q' in
    ⊎_elim
    (λ t. rw t
    (w'.below i (ltb-true i first t)
    ∙ marks-made (holds_own e) first unmarked some w i (ltb-true i first t)
    ∙ holds-keeps table columns (take (first * columns) rows) term group zeros e q i))
    (λ t. let z : first + (i - first) ≡ i = omega (arith, ltb-false i first t) in
    let m : get_or all i false ≡ holds_own e' (i - first) =
    rw z at (w'.made (i - first) (omega (arith, h, ltb-false i first t))) in
    rw (← q) (rw t
    (m ∙ holds-keeps table columns (drop (first * columns) rows) term group e e' d (i - first))))
    (on-or-off (ltb i first))
