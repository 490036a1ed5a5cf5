-- The closure of no edge, and of one edge more. Assumes nothing.
use mathlib.Core.Path.{◌≡◌, sym, ◌∙◌, ap}
use mathlib.Core.Logic.{⊎_elim}
use mathlib.Core.Bool.{Bool, false}
use mathlib.Core.List.{List, [], ◌∷◌}
use Prim.Native.Nat.{ℕ, ◌+◌, ◌-◌, ◌*◌, ◌/◌, ◌%◌, ◌<◌, ◌≤◌}
use native.Mathlib.Numerals.{add-one}
use native.Mathlib.Omega.{arith}
use lib.Dec.{eqb}
use lib.IntN.{ℤ}
use lib.ListN.{get_or, replicate, get_or-replicate}
use Rattle.model.specs.declared.Record.{Record}
use Rattle.model.specs.Bytes.{signed, eq_z}
use Rattle.model.specs.Record.{u_at, v_at, record_at}
use Rattle.model.specs.Better.{reaches}
use Rattle.laws.specs.Bools.{on-or-off}
use Rattle.laws.specs.Records.{Bytes, word_small}
use Rattle.laws.specs.Runs.{values_between, between_none, between_more}
use Rattle.records.specs.Fields.{u_word, v_word, value_at}
use Rattle.records.proofs.Signed.{eq-signed}
use Rattle.terms.specs.Closure.{end_word, cell_at, cell_with, Closure}

cells-none : (a b : ℕ) → a < 32 → b < 32 → cell_at (replicate 32 (replicate 32 false)) a b ≡ false
unfolding cell_at
cells-none a b h k = rw (get_or-replicate 32 a (replicate 32 false) [] h, get_or-replicate 32 b false false k)

reaches-none : (table : List ℕ) (j : ℕ) (x y : ℤ) → reaches (values_between table j (j + 1)) x y ≡ false
unfolding reaches
reaches-none table j x y = rw (between_none table j (j + 1) (omega arith))

-- No edge yet: nothing is reached.
pub closure-none : (table : List ℕ) (j : ℕ) → Closure table j (j + 1) (replicate 32 (replicate 32 false))
closure-none table j =
    record { each = λ a b h k. cells-none a b h k ∙ sym (reaches-none table j (signed (end_word table j a)) (signed (end_word table j b))) }

pub end-u : (table : List ℕ) (j i : ℕ) → j < i → end_word table j (2 * (i - j - 1)) ≡ u_word table i
unfolding end_word
end-u table j i h =
    let p : 2 * (i - j - 1) % 2 ≡ 0 = omega arith in
    let q : j + 1 + 2 * (i - j - 1) / 2 ≡ i = omega arith in
    rw (p, q)

pub end-v : (table : List ℕ) (j i : ℕ) → j < i → end_word table j (2 * (i - j - 1) + 1) ≡ v_word table i
unfolding end_word
end-v table j i h =
    let p : (2 * (i - j - 1) + 1) % 2 ≡ 1 = omega arith in
    let q : j + 1 + (2 * (i - j - 1) + 1) / 2 ≡ i = omega arith in
    rw (p, q)

end_below : (table : List ℕ) → Bytes table → (j a : ℕ) → end_word table j a < 4294967296
unfolding end_word
end_below table f j a =
    ⊎_elim (λ e. rw e (word_small table f (12 * (j + 1 + a / 2) + 4))) (λ e. rw e (word_small table f (12 * (j + 1 + a / 2) + 8))) (on-or-off (eqb (a % 2) 0))

-- The closure of the edges before record i becomes that for one edge more.
module _ (table x : List ℕ) (j i : ℕ) (g h : List (List Bool)) (f : Bytes table) (l : j < i) (m : i ≤ j + 16)
    (r : record_at table i ≡ Record.Value (value_at table i))
    (X : (a : ℕ) → a < 32 → get_or x a 0 ≡ end_word table j a) (G : Closure table j i g)
    (H : (a b : ℕ) → a < 32 → b < 32 → cell_at h a b ≡ cell_with x g (2 * (i - j - 1)) a b) where
  same_end : (a b : ℕ) → eq_z (signed (end_word table j a)) (signed (end_word table j b)) ≡ eqb (end_word table j a) (end_word table j b)
  same_end a b = eq-signed (end_word table j a) (end_word table j b) (end_below table f j a) (end_below table f j b)

  u-is : u_at table i ≡ signed (end_word table j (2 * (i - j - 1)))
  unfolding u_at
  u-is = ap signed (sym (end-u table j i l))

  v-is : v_at table i ≡ signed (end_word table j (2 * (i - j - 1) + 1))
  unfolding v_at
  v-is = ap signed (sym (end-v table j i l))

  cell : (a b : ℕ) → a < 32 → b < 32
      → cell_at h a b ≡ reaches (value_at table i ∷ values_between table j i) (signed (end_word table j a)) (signed (end_word table j b))
  unfolding cell_with reaches
  cell a b p q =
      let e : 2 * (i - j - 1) < 32 = omega arith in
      let d : 2 * (i - j - 1) + 1 < 32 = omega arith in
      rw (H a b p q, X a p, X b q, X (2 * (i - j - 1)) e, X (2 * (i - j - 1) + 1) d, u-is, v-is, same_end a (2 * (i - j - 1)), same_end b (2 * (i - j - 1) + 1), G.each a b p q, G.each a (2 * (i - j - 1)) p e, G.each (2 * (i - j - 1) + 1) b d q)

  pub closure-more : Closure table j (i + 1) h
  closure-more = record { each = λ a b p q. rw (add-one, between_more table j i (value_at table i) l r) (cell a b p q) }
