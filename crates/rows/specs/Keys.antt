-- Keys of rows by which rows of different groups are told apart early (SPECIFICATION, "Query"). Assumes nothing.
use Rattle.std.specs.Prelude.{◌≡◌, true, not, List, ℕ, ◌%◌, ◌<◌, ◌≤◌, eqb, ℤ, pos, length, get_or}
use Rattle.std.proofs.Common.{sym, ap, ◌∙◌, ⊎_elim, arith, eqb-true}
use Rattle.std.proofs.lemmas.Bool.{false≢true, eqb-false}
use Rattle.std.specs.Int.Count.{count_trailing_zeros}
use Rattle.std.proofs.Math.ListN.{get_or-eq_default}
use Rattle.model.specs.Bytes.{eq_z}
use Rattle.model.specs.Better.{Row, cell, equal_in}
use Rattle.model.specs.Query.{row_at}
use Rattle.laws.specs.Bools.{on-or-off, eq_z→≡, and_i}
use Rattle.laws.specs.Shift.{shift}
use Rattle.rows.specs.Group.{differs, unequal-in, lowest}

-- The low byte of a number, counted from the lowest of 32 bits.
unfoldable pub key_of : ℤ → ℕ
key_of z = shift z % 256

-- Rows of one group have the same key.
pub record Keyed (group columns : ℕ) (rows : List ℤ) (n : ℕ) (keys : List ℕ) : Type 0 where
  pub each : (i j : ℕ) → i < n → j < n → equal_in group (row_at columns rows i) (row_at columns rows j) ≡ true
      → get_or keys i 0 ≡ get_or keys j 0

-- Past the end of a row the key is 0.
pub key-past : (row : Row) (c : ℕ) → length row ≤ c → 0 ≡ key_of (cell row c)
unfolding key_of shift cell
key-past row c h = rw (get_or-eq_default row (pos 0) h)

-- Rows of one group agree in its lowest column; with no column in the group that is past the end of both.
pub agree-lowest : (group : ℕ) (x y : Row) → group < 256 → length x ≤ 8 → length y ≤ 8 → equal_in group x y ≡ true
    → cell x (count_trailing_zeros 8 group) ≡ cell y (count_trailing_zeros 8 group)
unfolding differs cell count_trailing_zeros
agree-lowest group x y few h k e = ⊎_elim (λ t. none (eqb-true group 0 t)) (λ t. some (eqb-false group 0 t)) (on-or-off (eqb group 0))
  where
    none : group ≡ 0 → cell x (count_trailing_zeros 8 group) ≡ cell y (count_trailing_zeros 8 group)
    none q = rw (q, get_or-eq_default x (pos 0) h, get_or-eq_default y (pos 0) k)

    some : (group ≡ 0 → ⊥) → cell x (count_trailing_zeros 8 group) ≡ cell y (count_trailing_zeros 8 group)
    some q =
        let w = lowest 8 group (omega (arith, q)) (omega (arith, few)) in
        let c = count_trailing_zeros 8 group in
        ⊎_elim (λ t. eq_z→≡ (cell x c) (cell y c) t)
        (λ t. absurd (false≢true (sym (unequal-in group c x y w.within (and_i w.set (ap not t))) ∙ e)))
        (on-or-off (eq_z (cell x c) (cell y c)))
