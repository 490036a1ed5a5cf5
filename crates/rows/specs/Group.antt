-- Two rows are in one group where they differ in no column of it (SPECIFICATION, "Query"). Assumes nothing.
use Rattle.std.specs.Prelude.{◌≡◌, refl, Bool, true, false, not, ◌&&◌, ℕ, zero, suc, ◌+◌, ◌-◌, ◌/◌, ◌%◌, ◌^◌, ◌<◌, ◌≤◌, eqb, ltb, pos, length}
use Rattle.std.proofs.Common.{sym, ap, ◌∙◌, ⊎_elim, pow-suc, div-one, add-one, arith, pow-add, pow_pos, ltb-true, ltb-false}
use Rattle.std.proofs.Math.Bool.{and-false}
use Rattle.std.proofs.lemmas.Bool.{false≢true}
use Rattle.std.proofs.Math.Nat.{div-div-eq-div-mul, lt-div-mul-add}
use Rattle.std.specs.Int.Count.{count_trailing_zeros, under}
use Rattle.std.proofs.Math.ListN.{get_or-eq_default}
use Rattle.model.specs.Search.{any_below}
use Rattle.model.specs.Bytes.{bit, eq_z}
use Rattle.model.specs.Better.{Row, cell, equal_in}
use Rattle.laws.specs.Bools.{and_l, on-or-off, same_test, eq_z-refl}
use Rattle.laws.specs.Search.{any-i, any-e, none-i, none-e}
use Rattle.laws.specs.Masks.{bit-zero, bit-suc, bit_below}

-- Column j is of the group, and the rows differ there.
unfoldable pub differs : ℕ → Row → Row → ℕ → Bool
differs group x y j = bit group j && not (eq_z (cell x j) (cell y j))

-- ---- the columns that the rows have

past : (group : ℕ) (x y : Row) (j : ℕ) → length x ≤ j → length y ≤ j → differs group x y j ≡ false
unfolding differs cell
past group x y j h k =
    rw (get_or-eq_default x (pos 0) h, get_or-eq_default y (pos 0) k, eq_z-refl (pos 0)) (and-false (bit group j))

-- Of rows with that many columns only these are looked at: past the end both rows read the same.
pub equal-in-below : (group columns : ℕ) (x y : Row) → length x ≡ columns → length y ≡ columns → columns ≤ 8
    → equal_in group x y ≡ not (any_below columns (differs group x y))
unfolding equal_in differs
equal-in-below group columns x y h k l =
    ap not (same_test (any_below 8 (differs group x y)) (any_below columns (differs group x y)) down up)
  where
    here : (j : ℕ) → differs group x y j ≡ true → j < columns
    here j e =
        ⊎_elim (λ t. ltb-true j columns t)
        (λ t. let o = ltb-false j columns t in
        absurd (false≢true (sym (past group x y j (omega (arith, h, o)) (omega (arith, k, o))) ∙ e)))
        (on-or-off (ltb j columns))

    down : any_below 8 (differs group x y) ≡ true → any_below columns (differs group x y) ≡ true
    down e = let w = any-e 8 (differs group x y) e in any-i columns (differs group x y) w.0 (here w.0 w.2) w.2

    up : any_below columns (differs group x y) ≡ true → any_below 8 (differs group x y) ≡ true
    up e = let w = any-e columns (differs group x y) e in any-i 8 (differs group x y) w.0 (omega (arith, w.1)) w.2

-- Rows that differ in no column of the group before the end are in one group.
pub equal-in-past : (group m columns : ℕ) (x y : Row) → length x ≡ columns → length y ≡ columns → columns ≤ 8 → columns ≤ m
    → any_below m (differs group x y) ≡ false → equal_in group x y ≡ true
equal-in-past group m columns x y h k l o e =
    equal-in-below group columns x y h k l
    ∙ ap not (none-i columns (differs group x y) (λ j q t. false≢true (sym (none-e m (differs group x y) e j (omega arith)) ∙ t)))

-- Rows that differ in a column of the group are not in one group.
pub unequal-in : (group c : ℕ) (x y : Row) → c < 8 → differs group x y c ≡ true → equal_in group x y ≡ false
unfolding equal_in differs
unequal-in group c x y h e = ap not (any-i 8 (differs group x y) c h e)

-- With no bit set rows differ in no column.
pub differs_none : (x y : Row) (j : ℕ) → differs 0 x y j ≡ false
unfolding differs
differs_none x y j = rw (bit-zero j)

-- ---- column after column: what is left of the group byte after c halvings

pub left-none : (group : ℕ) → group ≡ group / 2 ^ 0
left-none group = sym (div-one group)

pub left-more : (group c : ℕ) {left : ℕ} → left ≡ group / 2 ^ c → left / 2 ≡ group / 2 ^ (c + 1)
left-more group c e = rw (e, add-one c, pow-suc 2 c) (div-div-eq-div-mul group (2 ^ c) 2)

-- Its lowest bit is bit c.
pub differs-left : (group c : ℕ) (x y : Row) {left : ℕ} → left ≡ group / 2 ^ c
    → (eqb (left % 2) 1 && not (eq_z (cell x c) (cell y c))) ≡ differs group x y c
unfolding differs bit
differs-left group c x y e = rw e

-- With nothing left no further column is of the group.
pub equal-in-left : (group c : ℕ) (x y : Row) → 0 ≡ group / 2 ^ c → any_below c (differs group x y) ≡ false
    → equal_in group x y ≡ true
unfolding equal_in differs
equal-in-left group c x y h k =
    ap not (none-i 8 (differs group x y) (λ j l e. false≢true (sym (none-e c (differs group x y) k j (before j e)) ∙ e)))
  where
    small : group < 2 ^ c
    small = omega (arith, rw (← h) at (lt-div-mul-add {a = group} {b = 2 ^ c} (pow_pos c)))

    before : (j : ℕ) → differs group x y j ≡ true → j < c
    before j e = bit_below c group j small (and_l (bit group j) (not (eq_z (cell x j) (cell y j))) e)

-- ---- from set bit to set bit

-- The lowest bit set of a number of k digits that is not 0.
pub record Lowest (k q t : ℕ) : Type 0 where
  pub within : t < k
  pub set : bit q t ≡ true
  pub unset : (j : ℕ) → j < t → bit q j ≡ false

bit-first : (q : ℕ) {r : ℕ} → q % 2 ≡ r → bit q 0 ≡ eqb r 1
unfolding bit
bit-first q e = rw (div-one q, e)

bits-unset : (q t : ℕ) → q % 2 ≡ 0 → ((j : ℕ) → j < t → bit (q / 2) j ≡ false) → (j : ℕ) → j < suc t → bit q j ≡ false
bits-unset q t e f zero l = bit-first q e
bits-unset q t e f (suc j) l = bit-suc q j ∙ f j (omega arith)

-- It is found by counting the zeros below it.
pub lowest : (k q : ℕ) → 0 < q → q < 2 ^ k → Lowest k q (count_trailing_zeros k q)
unfolding count_trailing_zeros
lowest zero q h l = absurd (omega arith)
lowest (suc k) q h l = go (q % 2) refl (λ e. lowest k (q / 2) (omega arith) (omega (arith, pow-suc 2 k)))
  where
    go : (r : ℕ) → q % 2 ≡ r → (q % 2 ≡ 0 → Lowest k (q / 2) (count_trailing_zeros k (q / 2)))
        → Lowest (suc k) q (under r (count_trailing_zeros k (q / 2)))
    go zero e w =
        let t = count_trailing_zeros k (q / 2) in
        let half = w e in
        record { within = omega arith; set = bit-suc q t ∙ half.set; unset = bits-unset q t e half.unset }
    go (suc zero) e w = record { within = omega arith; set = bit-first q e; unset = λ j m. absurd (omega arith) }
    go (suc (suc r)) e w = absurd (omega arith)

module _ (group c : ℕ) {left : ℕ} (h : left ≡ group / 2 ^ c) where
  -- t halvings more
  pub left-shift : (t : ℕ) → left / 2 ^ t ≡ group / 2 ^ (c + t)
  left-shift t = rw (h, pow-add 2 c t) (div-div-eq-div-mul group (2 ^ c) (2 ^ t))

  -- Bit t of what is left is bit c + t.
  pub bit-left : (t : ℕ) → bit left t ≡ bit group (c + t)
  unfolding bit
  bit-left t = rw (left-shift t)

-- Columns whose bits are not set are passed over.
pub differs-skip : (group c t : ℕ) (x y : Row) {left : ℕ} → left ≡ group / 2 ^ c → ((j : ℕ) → j < t → bit left j ≡ false)
    → any_below c (differs group x y) ≡ false → any_below (c + t) (differs group x y) ≡ false
unfolding differs
differs-skip group c t x y h u k =
    none-i (c + t) (differs group x y) (λ j l e. ⊎_elim (λ b. early j b e) (λ b. late j b l e) (on-or-off (ltb j c)))
  where
    early : (j : ℕ) → ltb j c ≡ true → differs group x y j ≡ true → ⊥
    early j b e = false≢true (sym (none-e c (differs group x y) k j (ltb-true j c b)) ∙ e)

    late : (j : ℕ) → ltb j c ≡ false → j < c + t → differs group x y j ≡ true → ⊥
    late j b l e =
        let o = ltb-false j c b in
        let i : c + (j - c) ≡ j = omega arith in
        let f = rw i at (bit-left group c h (j - c)) in
        false≢true (sym (u (j - c) (omega arith)) ∙ f ∙ and_l (bit group j) (not (eq_z (cell x j) (cell y j))) e)

-- A column whose bit is set,
pub differs-set : (group c t : ℕ) (x y : Row) {left : ℕ} → left ≡ group / 2 ^ c → bit left t ≡ true
    → differs group x y (c + t) ≡ not (eq_z (cell x (c + t)) (cell y (c + t)))
unfolding differs
differs-set group c t x y h b = rw (sym (bit-left group c h t) ∙ b)

-- and after it one more.
pub none_more : (c : ℕ) (p : ℕ → Bool) → any_below c p ≡ false → p c ≡ false → any_below (c + 1) p ≡ false
unfolding any_below
none_more c p h e = rw (add-one c, h, e)
