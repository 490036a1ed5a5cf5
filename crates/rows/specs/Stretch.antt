-- A stretch: entries in a row, one for each row of a block, and made from the row's cell in one column. Assumes nothing.
use Rattle.std.specs.Prelude.{◌≡◌, refl, List, ℕ, ◌+◌, ◌*◌, ◌<◌, ◌≤◌, ℤ, pos, length, get_or, set}
use Rattle.std.proofs.Common.{sym, subst, ◌∙◌, ⊎_elim, add-mul, arith, get_or-set_same, get_or-set_other}
use Rattle.model.specs.Better.{cell}
use Rattle.model.specs.Query.{row_at}
use Rattle.laws.specs.Search.{lt-suc-cases}
use Rattle.rows.specs.Values.{Room}
use Rattle.rows.specs.Places.{row_in, cell-run}

-- Each entry is made from the cell in column c of its row of block b: `Q x y` says that y is made from x.
pub record Made (Q : ℤ → ℤ → Type 0) (columns : ℕ) (rows : List ℤ) (b c : ℕ) (entries : List ℤ) : Type 0 where
  pub each : (j : ℕ) → j < length entries → Q (cell (row_at columns rows (b * 64 + j)) c) (get_or entries j (pos 0))

-- The m entries from `at` on are right, and every other entry is as it was. `Q j y` says of y that it is right for entry j.
pub record Stretch (Q : ℕ → ℤ → Type 0) (m at : ℕ) (before after : List ℤ) : Type 0 where
  pub here : (j : ℕ) → j < m → Q j (get_or after (at + j) (pos 0))
  pub kept : (p : ℕ) → ((j : ℕ) → j < m → p ≡ at + j → ⊥) → get_or after p (pos 0) ≡ get_or before p (pos 0)

-- The cell of row b * 64 + j, as it stands in the run.
pub cell_at : (columns b c : ℕ) → c < columns → (rows : List ℤ) (j : ℕ)
    → get_or rows (b * 64 * columns + c + j * columns) (pos 0) ≡ cell (row_at columns rows (b * 64 + j)) c
cell_at columns b c h rows j =
    let e : b * 64 * columns + c + j * columns ≡ (b * 64 + j) * columns + c = omega (arith, add-mul (b * 64) j columns) in
    rw e (cell-run columns rows (b * 64 + j) c h)

-- ---- a loop over the entries

module _ (Q : ℕ → ℤ → Type 0) (at : ℕ) (before : List ℤ) where
  -- No entry yet.
  pub stretch-none : Stretch Q 0 at before before
  stretch-none = record { here = λ j l. absurd (omega (arith, l)); kept = λ p f. refl }

  -- One entry more.
  pub stretch-more : (j : ℕ) (list : List ℤ) (y : ℤ) → at + j < length list → Q j y → Stretch Q j at before list
      → Stretch Q (j + 1) at before (set list (at + j) y)
  stretch-more j list y l q s =
      record {
        here = λ i m. ⊎_elim
            (λ o. subst (Q i) (sym (get_or-set_other list (at + j) (at + i) y (pos 0) (λ e. omega (arith, o, e)))) (s.here i o))
            (λ o. rw o (subst (Q j) (sym (get_or-set_same list (at + j) y (pos 0) l)) q))
            (lt-suc-cases i j (omega (arith, m)));
        kept = λ p f.
            get_or-set_other list (at + j) p y (pos 0) (λ e. f j (omega arith) e)
            ∙ s.kept p (λ i m e. f i (omega (arith, m)) e);
      }

-- ---- the places of a block's column

-- The cells are in a run of that length, and the entries in a buffer of that size.
pub record StretchIn (columns run from m at size : ℕ) : Type 0 where
  pub cells : (j : ℕ) → j < m → from + j * columns < run
  pub entries : at + m ≤ size

-- The cells and the entries of a block's column are there.
pub stretch-in : (columns n b c : ℕ) → c < columns → (length size g len : ℕ) → length ≡ n * columns → Room n size len
    → g * 64 + 64 ≤ size → b * 64 < n → (m : ℕ) → m ≤ 64 → b * 64 + m ≤ n
    → StretchIn columns length (b * 64 * columns + c) m (b * size + g * 64) len
stretch-in columns n b c h length size g len e room w f m k l =
    record {
      cells = λ j o. omega (arith, row_in n columns length e (b * 64 + j) (omega (arith, o, l)), add-mul (b * 64) j columns, h);
      entries = omega (arith, room.each b f, w, k);
    }
