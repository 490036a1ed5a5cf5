-- Which lanes stay lit, column after column of the group. Assumes nothing.
use mathlib.Core.Path.{◌≡◌, refl, sym, ◌∙◌}
use mathlib.Core.Bool.{Bool, true, false, not, ◌&&◌, ◌||◌, not-not, and-true, and-false, and_assoc, false≢true}
use mathlib.Core.List.{List}
use Prim.Native.Nat.{ℕ, ◌+◌, ◌*◌, ◌/◌, ◌%◌, ◌^◌, ◌≤◌, ◌<◌}
use native.Mathlib.Omega.{arith}
use lib.Dec.{eqb}
use lib.IntN.{ℤ, pos}
use lib.ListN.{get_or, length}
use borrow.Author.Tests.{eq-eqb, ne_eqb}
use Rattle.model.specs.Search.{any_below}
use Rattle.model.specs.Bytes.{bit, eq_z}
use Rattle.model.specs.Better.{cell}
use Rattle.model.specs.Query.{row_at}
use Rattle.laws.specs.Search.{none-i, none-e}
use Rattle.rows.specs.Group.{differs, differs_none, equal-in-below}
use Rattle.rows.specs.Keys.{Keyed}
use Rattle.rows.specs.Values.{Valued}
use Rattle.rows.specs.Places.{row-length}
use Rattle.laws.specs.Wrote.{Wrote}
use Rattle.lanes.specs.Lit.{lit, free, pending, free_lane, pending_lane}
use Rattle.lanes.proofs.LitStored.{any_step, lit-byte}
use Rattle.lanes.specs.Equal.{equal_lane, key_lane}
use Rattle.blocks.specs.Alive.{Columned, Grouped, Alive, Above, Beyond}

-- ---- lanes as they were written

pub lit_free : (gone : List ℕ) (at : ℕ) {old live : List ℕ} → Wrote 0 (free_lane gone at) 0 64 old live
    → (j : ℕ) → j < 64 → lit live j ≡ free gone at j
unfolding free_lane
lit_free gone at {live = live} r j l = lit-byte live j (free gone at j) (r.made j l)

pub lit_pending : (gone by : List ℕ) (at : ℕ) {old live : List ℕ} → Wrote 0 (pending_lane gone by at) 0 64 old live
    → (j : ℕ) → j < 64 → lit live j ≡ pending gone by at j
unfolding pending_lane
lit_pending gone by at {live = live} r j l = lit-byte live j (pending gone by at j) (r.made j l)

lit-equal : (old : List ℕ) (v : ℤ) (values : List ℤ) (at : ℕ) (new : List ℕ)
    → Wrote 0 (equal_lane old v values at) 0 64 old new → (j : ℕ) → j < 64
    → lit new j ≡ (lit old j && eq_z v (get_or values (at + j) (pos 0)))
unfolding equal_lane
lit-equal old v values at new r j l = lit-byte new j (lit old j && eq_z v (get_or values (at + j) (pos 0))) (r.made j l)

absorb : (a k d : Bool) → (d ≡ true → k ≡ true) → ((a && k) && d) ≡ (a && d)
absorb true k true e = rw (e refl)
absorb true k false e = and-false k
absorb false k d e = refl

not-or : (a b : Bool) → not (a || b) ≡ (not a && not b)
not-or true b = refl
not-or false b = refl

-- ---- one column

module _ {group columns : ℕ} {rows : List ℤ} {n i b c : ℕ} where
  -- It is of the group.
  pub columned_set : {values : List ℤ} {v : ℤ} {old new : List ℕ} → group / 2 ^ c % 2 ≡ 1 → Valued columns rows n columns values
      → c < columns → i < n → v ≡ get_or values (i / 64 * 512 + c * 64 + i % 64) (pos 0)
      → Wrote 0 (equal_lane old v values (b * 512 + c * 64)) 0 64 old new → Columned group columns rows n i b c old new
  unfolding differs bit
  columned_set {values} {v} {old} {new} o r l g e w =
      record {
        on = λ j h k. lit-equal old v values (b * 512 + c * 64) new w j h
            ∙ rw (eq-eqb (group / 2 ^ c % 2) 1 o, r.each b j c h k l, own, not-not (same j));
        off = λ j h z. lit-equal old v values (b * 512 + c * 64) new w j h ∙ rw z;
      }
    where
      same : ℕ → Bool
      same j = eq_z (cell (row_at columns rows i) c) (cell (row_at columns rows (b * 64 + j)) c)

      own : v ≡ cell (row_at columns rows i) c
      own =
          let q : i / 64 * 64 + i % 64 ≡ i = omega arith in
          e ∙ (rw q at (r.each (i / 64) (i % 64) c (omega arith) (omega (arith, g)) l))

  -- It is not.
  pub columned_skip : {live : List ℕ} → (group / 2 ^ c % 2 ≡ 1 → ⊥) → Columned group columns rows n i b c live live
  unfolding differs bit
  columned_skip {live} o =
      record {
        on = λ j h k. rw (ne_eqb (group / 2 ^ c % 2) 1 o) (sym (and-true (lit live j)));
        off = λ j h z. z;
      }

-- ---- the columns below c

-- Column c is of the group, and the rows of lane j and row i differ there.
abbrev apart : ℕ → ℕ → List ℤ → ℕ → ℕ → ℕ → ℕ → Bool
apart group columns rows i b j = differs group (row_at columns rows i) (row_at columns rows (b * 64 + j))

module _ {group columns : ℕ} {rows : List ℤ} {n i b : ℕ} {first : List ℕ} where
  pub grouped_none : Grouped group columns rows n i b 0 first first
  unfolding any_below
  grouped_none = record { on = λ j h k. sym (and-true (lit first j)); off = λ j h z. z }

  pub grouped_more : {c : ℕ} {old new : List ℕ} → Grouped group columns rows n i b c first old
      → Columned group columns rows n i b c old new → Grouped group columns rows n i b (c + 1) first new
  grouped_more {c} r o =
      record {
        on = λ j h k. let p = apart group columns rows i b j in
            o.on j h k
            ∙ rw (r.on j h k, and_assoc (lit first j) (not (any_below c p)) (not (p c)), sym (not-or (any_below c p) (p c)), any_step p c);
        off = λ j h z. o.off j h (r.off j h z);
      }

  -- With no bit set no lane is put out.
  pub grouped_all : group ≡ 0 → Grouped group columns rows n i b columns first first
  grouped_all e =
      record {
        on = λ j h k. rw (none j) (sym (and-true (lit first j)));
        off = λ j h z. z;
      }
    where
      none : (j : ℕ) → any_below columns (apart group columns rows i b j) ≡ false
      none j =
          none-i columns (apart group columns rows i b j)
          (λ c h t. let f = differs_none (row_at columns rows i) (row_at columns rows (b * 64 + j)) c in
          false≢true (sym (rw (sym e) at f) ∙ t))

  -- After all columns the lanes of the group are lit.
  pub alive : {pass : ℕ → Bool} {live : List ℕ} → length rows ≡ n * columns → columns ≤ 8 → i < n
      → ((j : ℕ) → j < 64 → lit first j ≡ pass j) → ((j : ℕ) → j < 64 → n ≤ b * 64 + j → pass j ≡ false)
      → Grouped group columns rows n i b columns first live → Alive group columns rows n i b pass live
  alive run narrow g e z r =
      record {
        on = λ j h k. r.on j h k
            ∙ rw (
              e j h,
              equal-in-below group columns (row_at columns rows i) (row_at columns rows (b * 64 + j))
                  (row-length columns rows n run i g) (row-length columns rows n run (b * 64 + j) k) narrow,
            );
        off = λ j h k. r.off j h (e j h ∙ z j h k);
      }

-- ---- the lanes of row i's key first

-- Lane j has row i's key.
abbrev same : List ℕ → ℕ → ℕ → ℕ → Bool
same keys i b j = eqb (get_or keys i 0) (get_or keys (b * 64 + j) 0)

lit-key : (keys : List ℕ) (i b : ℕ) (first : List ℕ) {old mid : List ℕ}
    → Wrote 0 (key_lane first (get_or keys i 0) keys (b * 64)) 0 64 old mid → (j : ℕ) → j < 64
    → lit mid j ≡ (lit first j && same keys i b j)
unfolding key_lane
lit-key keys i b first {mid = mid} wrote j l = lit-byte mid j (lit first j && same keys i b j) (wrote.made j l)

-- A row of the group has row i's key, so that its lane is lit in any case.
absorbed : {group columns : ℕ} {rows : List ℤ} {n : ℕ} (i b : ℕ) (first : List ℕ) {keys : List ℕ}
    → length rows ≡ n * columns → columns ≤ 8 → i < n → Keyed group columns rows n keys → (j : ℕ) → b * 64 + j < n
    → ((lit first j && same keys i b j) && not (any_below columns (apart group columns rows i b j)))
    ≡ (lit first j && not (any_below columns (apart group columns rows i b j)))
absorbed {group} {columns} {rows} {n} i b first {keys} run narrow row keyed j k =
    absorb (lit first j) (same keys i b j) (not (any_below columns (apart group columns rows i b j)))
    (λ e. eq-eqb (get_or keys i 0) (get_or keys (b * 64 + j) 0)
    (keyed.each i (b * 64 + j) row k
    (equal-in-below group columns (row_at columns rows i) (row_at columns rows (b * 64 + j))
    (row-length columns rows n run i row) (row-length columns rows n run (b * 64 + j) k) narrow ∙ e)))

module _ {group columns : ℕ} {rows : List ℤ} {n i b : ℕ} {first keys mid old : List ℕ} (run : length rows ≡ n * columns)
    (narrow : columns ≤ 8) (row : i < n) (keyed : Keyed group columns rows n keys)
    (wrote : Wrote 0 (key_lane first (get_or keys i 0) keys (b * 64)) 0 64 old mid) where
  pub grouped_keyed : {new : List ℕ} → Grouped group columns rows n i b columns mid new
      → Grouped group columns rows n i b columns first new
  grouped_keyed r =
      record {
        on = λ j h k. r.on j h k ∙ rw (lit-key keys i b first wrote j h) (absorbed i b first run narrow row keyed j k);
        off = λ j h z. r.off j h (lit-key keys i b first wrote j h ∙ rw z);
      }

  -- No lane has row i's key.
  pub grouped_dark : any_below 64 (lit mid) ≡ false → Grouped group columns rows n i b columns first mid
  grouped_dark e =
      record {
        on = λ j h k. let out = none-e 64 (lit mid) e j h in
            out ∙ sym (sym (absorbed i b first run narrow row keyed j k) ∙ rw (sym (lit-key keys i b first wrote j h) ∙ out));
        off = λ j h z. lit-key keys i b first wrote j h ∙ rw z;
      }

-- No lane that is no row is free,
pub free_off : {n : ℕ} (b : ℕ) {gone : List ℕ} → b * 64 < n → n ≤ 1024 → Above n gone
    → (j : ℕ) → j < 64 → n ≤ b * 64 + j → free gone (b * 64) j ≡ false
unfolding free
free_off b {gone} l few a j h k =
    ne_eqb (get_or gone (b * 64 + j) 0) 0 (λ e. a.each (b * 64 + j) k (omega (arith, l, few, h)) e)

-- nor waits for a name.
pub pending_off : {n : ℕ} (b : ℕ) (gone : List ℕ) {by : List ℕ} → b * 64 < n → n ≤ 1024 → Beyond n by
    → (j : ℕ) → j < 64 → n ≤ b * 64 + j → pending gone by (b * 64) j ≡ false
unfolding pending
pending_off b gone {by} l few a j h k =
    rw (ne_eqb (get_or by (b * 64 + j) 0) 1024 (λ e. a.each (b * 64 + j) k (omega (arith, l, few, h)) e))
    (and-false (not (eqb (get_or gone (b * 64 + j) 0) 0)))
