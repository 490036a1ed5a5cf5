-- Entries by block: the entry of row b * 64 + j at stretch h stands at b * size + h * 64 + j, in block b, in its stretch h,
-- at lane j. `size` is what each block takes. Assumes nothing.
use Rattle.std.specs.Prelude.{◌≡◌, List, ℕ, ◌+◌, ◌-◌, ◌*◌, ◌/◌, ◌%◌, ◌<◌, ◌≤◌, ltb, length, get_or, take, drop, ℤ, pos}
use Rattle.std.proofs.Common.{sym, ap, ◌∙◌, ⊎_elim, mul-le-mul_right, suc-mul, arith, length-drop, get_or-take, get_or-drop, length-take-le, ltb-true, ltb-false}
use Rattle.std.proofs.Math.Nat.{add-sub_cancel_left}
use Rattle.model.specs.Better.{cell}
use Rattle.model.specs.Query.{row_at}
use Rattle.laws.specs.Bools.{on-or-off}
use Rattle.rows.specs.Values.{Room}

-- A run has the whole of each of its rows.
pub row_in : (n columns size : ℕ) → size ≡ n * columns → (i : ℕ) → i < n → i * columns + columns ≤ size
row_in n columns size e i h = let m = mul-le-mul_right columns h in omega (arith, e, m, suc-mul i columns)

-- The part of the run from a row's beginning to its end is the row.
pub row-part : (columns : ℕ) (rows : List ℤ) (i : ℕ)
    → take (i * columns + columns - i * columns) (drop (i * columns) rows) ≡ row_at columns rows i
unfolding row_at
row-part columns rows i = ap (λ (m : ℕ). take m (drop (i * columns) rows)) (add-sub_cancel_left (i * columns) columns)

-- A row of the run has the run's columns.
pub row-length : (columns : ℕ) (rows : List ℤ) (n : ℕ) → length rows ≡ n * columns → (i : ℕ) → i < n
    → length (row_at columns rows i) ≡ columns
unfolding row_at
row-length columns rows n e i h =
    length-take-le columns (drop (i * columns) rows)
    (rw (length-drop (i * columns) rows) (omega (arith, row_in n columns (length rows) e i h)))

-- The cell of row i in column c, in the run.
pub cell-run : (columns : ℕ) (rows : List ℤ) (i c : ℕ) → c < columns
    → get_or rows (i * columns + c) (pos 0) ≡ cell (row_at columns rows i) c
unfolding cell row_at
cell-run columns rows i c h =
    sym (get_or-take columns (drop (i * columns) rows) c (pos 0) h ∙ get_or-drop (i * columns) rows c (pos 0))

-- The entry of a row has a place.
pub place_in : (n size : ℕ) {l : ℕ} → Room n size l → (i h : ℕ) → i < n → h * 64 + 64 ≤ size
    → i / 64 * size + h * 64 + i % 64 < l
place_in n size room i h k w = let r = room.each (i / 64) (omega (arith, k)) in omega (arith, r, w)

apart-block : (size b b' r r' : ℕ) → r < size → b < b' → b * size + r ≡ b' * size + r' → ⊥
apart-block size b b' r r' h l e = let m = mul-le-mul_right size l in omega (arith, h, e, m, suc-mul b size)

-- Different rows or stretches have different places.
pub place-apart : (size b h j b' h' j' : ℕ) → j < 64 → j' < 64 → h * 64 + 64 ≤ size → h' * 64 + 64 ≤ size
    → b * size + h * 64 + j ≡ b' * size + h' * 64 + j' → (h ≡ h') × (b * 64 + j ≡ b' * 64 + j')
place-apart size b h j b' h' j' k k' w w' e =
    ⊎_elim
    (λ t. absurd
    (apart-block size b b' (h * 64 + j) (h' * 64 + j') (omega (arith, k, w)) (ltb-true b b' t) (omega (arith, e))))
    (λ t. ⊎_elim
    (λ u. absurd
    (apart-block size b' b (h' * 64 + j') (h * 64 + j) (omega (arith, k', w')) (ltb-true b' b u) (omega (arith, e))))
    (λ u. same (omega (arith, ltb-false b b' t, ltb-false b' b u)))
    (on-or-off (ltb b' b)))
    (on-or-off (ltb b b'))
  where
    same : b ≡ b' → (h ≡ h') × (b * 64 + j ≡ b' * 64 + j')
    same q =
        let f : b * size ≡ b' * size = ap (λ (x : ℕ). x * size) q in
        (omega (arith, e, f, k, k'), omega (arith, e, f, k, k', q))
