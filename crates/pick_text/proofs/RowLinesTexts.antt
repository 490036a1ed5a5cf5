-- The lines of rows as the code puts them, one field after another. Assumes nothing.
use native.Mathlib.Numerals.{add-one}
use Prim.Native.Nat.{ℕ, ◌+◌}
use mathlib.Core.Path.{◌≡◌}
use mathlib.Core.List.{[], ◌∷◌, ◌++◌, append_assoc}
use borrow.Author.Tests.{eq-eqb, ne_eqb}
use Rattle.model.specs.Pick.{text, decimal, line, row_text, rows_text}

-- The line of a row, and the lines of one row more.
module _ (i e : ℕ) where
  pub kept : e ≡ i → row_text i e ≡ decimal i ++ (32 ∷ 107 ∷ 101 ∷ 101 ∷ 112 ∷ 10 ∷ [])
  unfolding row_text line text
  kept h = simp (eq-eqb e i h)

  pub dropped : (e ≡ i → ⊥) → row_text i e ≡
      ((decimal i ++ (32 ∷ 100 ∷ 114 ∷ 111 ∷ 112 ∷ 32 ∷ [])) ++ decimal e) ++ (10 ∷ [])
  unfolding row_text line text
  dropped h = simp (ne_eqb e i h, append_assoc)

pub more : (n : ℕ) (answers : ℕ → ℕ) → rows_text (n + 1) answers ≡ rows_text n answers ++ row_text n (answers n)
unfolding rows_text
more n answers = rw add-one
