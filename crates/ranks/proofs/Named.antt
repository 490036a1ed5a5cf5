-- What the value records of a term name, one record more. Assumes nothing.
use mathlib.Core.Path.{◌≡◌, refl, sym, ◌∙◌}
use mathlib.Core.Bool.{false, cond, ◌||◌}
use mathlib.Core.List.{List}
use Prim.Native.Nat.{ℕ, ◌+◌, ◌*◌, ◌<◌, ◌≤◌}
use native.Mathlib.Omega.{arith}
use native.Mathlib.Numerals.{add-one}
use lib.IntN.{ℤ, pos}
use lib.ListN.{get_or, length, replicate, length-replicate, get_or-replicate, get_or-eq_default}
use borrow.Author.Tests.{eq-eqb, ne_eqb}
use Rattle.model.specs.declared.Record.{Record}
use Rattle.model.specs.Search.{any_in}
use Rattle.model.specs.Record.{record_at, p_at}
use Rattle.model.specs.Better.{cell, in_role}
use Rattle.model.specs.Query.{row_at}
use Rattle.laws.specs.Runs.{values_between, between_none, between_more}
use Rattle.records.specs.Fields.{value_at}
use Rattle.terms.specs.Prepared.{number_at}
use Rattle.terms.proofs.Ends.{number-u}
use Rattle.rows.specs.Stretch.{Made}
use Rattle.ranks.specs.Put.{put_lane, Put, is_number, is_value, last_place}
use Rattle.ranks.specs.Made.{either, put-none, put-over}

-- ---- entries that are put one after the other

module _ {cells before : List ℤ} where
  -- In a list of its own each entry has its place.
  pub put-each : {f : ℤ → ℤ → ℤ} {after : List ℤ} → length after ≡ length before
      → ((j : ℕ) → j < length before → get_or after j (pos 0) ≡ f (get_or cells j (pos 0)) (get_or before j (pos 0)))
      → Put f cells before after
  unfolding put_lane
  put-each {f} {after} e each =
      record {
        size = e;
        all = record {
          made = λ j l. let d : 0 + j ≡ j = omega arith in rw d (each j l);
          below = λ x l. absurd (omega arith);
          above = λ x l. get_or-eq_default after (pos 0) (rw e (omega (arith, l))) ∙ sym (get_or-eq_default before (pos 0) (omega (arith, l)));
        };
      }

  put-at : {f : ℤ → ℤ → ℤ} {after : List ℤ} → Put f cells before after → (j : ℕ) → j < length before
      → get_or after j (pos 0) ≡ f (get_or cells j (pos 0)) (get_or before j (pos 0))
  unfolding put_lane
  put-at p j l = let d : 0 + j ≡ j = omega arith in rw d at (p.all.made j l)

  -- Nothing is put.
  pub kept-all : (f : ℤ → ℤ → ℤ) → ((x r : ℤ) → r ≡ f x r) → Put f cells before before
  kept-all f h = record { size = refl; all = put-none cells 0 (length before) f before (λ x r. sym (h x r)) }

  -- One number is put everywhere.
  pub filled : {y : ℤ} {after : List ℤ} → after ≡ replicate (length before) y → Put (λ x r. y) cells before after
  filled {y} e =
      put-each (rw e (length-replicate {A = ℤ} (length before) y)) (λ j l. rw e (get_or-replicate (length before) j y (pos 0) l))

  -- One after the other.
  pub then_put : {mid after : List ℤ} {f g all : ℤ → ℤ → ℤ} → Put f cells before mid → Put g cells mid after
      → ((x r : ℤ) → g x (f x r) ≡ all x r) → Put all cells before after
  then_put {mid} {after} {f} {g} {all} s t h =
      record {
        size = t.size ∙ s.size;
        all = put-over cells 0 (length before) f g all before mid after (λ x r. sym (h x r)) s.all (rw s.size at t.all);
      }

  -- Over the cells of a block's column the entries are made from the rows.
  pub put-made : {f : ℤ → ℤ → ℤ} {Q : ℤ → ℤ → Type 0} {columns n b c : ℕ} {rows after : List ℤ} → Put f cells before after
      → length before ≤ 64 → b * 64 + length before ≤ n
      → ((j : ℕ) → j < 64 → b * 64 + j < n → get_or cells j (pos 0) ≡ cell (row_at columns rows (b * 64 + j)) c)
      → ((x r : ℤ) → Q x (f x r)) → Made Q columns rows b c after
  put-made {f} {Q} {columns} {n} {b} {c} {rows} p few within same right =
      record {
        each = λ j l.
            let k : j < length before = rw p.size at l in
            let x = cell (row_at columns rows (b * 64 + j)) c in
            rw (put-at p j k, same j (omega (arith, k, few)) (omega (arith, k, within))) (right x (get_or before j (pos 0)));
      }

module _ (table : List ℕ) where
  -- A record of another role names nothing,
  other-role : (i role : ℕ) {r : ℕ} → r ≡ p_at table i → (r ≡ role → ⊥) → (x : ℤ) → is_value table i role x ≡ false
  unfolding is_value
  other-role i role {r} e h x = rw (sym e, ne_eqb r role h)

  -- and one of the role its number.
  same-role : (i role : ℕ) {r : ℕ} {u : ℤ} → r ≡ p_at table i → r ≡ role → u ≡ number_at table (2 * i) → (x : ℤ)
      → is_value table i role x ≡ is_number u x
  unfolding is_value is_number
  same-role i role {r} e h q x = rw (sym e, eq-eqb r role h, q, number-u table i)

  -- Before the first value nothing is in a role.
  pub role-none : (k role : ℕ) (class x r : ℤ) → r ≡ cond (in_role role (values_between table k (k + 1)) x) class r
  unfolding in_role any_in
  role-none k role class x r = rw (between_none table k (k + 1) (omega arith))

  module _ (k i role : ℕ) (class : ℤ) (low : k < i) (is : record_at table i ≡ Record.Value (value_at table i)) where
    -- One value record more.
    role-more : (x : ℤ) → in_role role (values_between table k (i + 1)) x
        ≡ (is_value table i role x || in_role role (values_between table k i) x)
    unfolding in_role any_in is_value
    role-more x = rw (add-one, between_more table k i (value_at table i) low is)

    -- Where it has the role, its class is put for its number,
    pub role-put : {p : ℕ} {u : ℤ} → p ≡ p_at table i → p ≡ role → u ≡ number_at table (2 * i) → (x r : ℤ)
        → cond (is_number u x) class (cond (in_role role (values_between table k i) x) class r)
        ≡ cond (in_role role (values_between table k (i + 1)) x) class r
    role-put e h q x r =
        either (is_number _ x) (in_role role (values_between table k i) x) class r
        ∙ rw (role-more x, same-role i role e h q x) refl

    -- and else nothing is.
    pub role-kept : {p : ℕ} → p ≡ p_at table i → (p ≡ role → ⊥) → (x r : ℤ)
        → cond (in_role role (values_between table k i) x) class r ≡ cond (in_role role (values_between table k (i + 1)) x) class r
    role-kept e h x r = rw (role-more x, other-role i role e h x) refl

  -- ---- places

  -- At no place nothing is put,
  pub place-none : (first : ℕ) (x r : ℤ) → r ≡ last_place table first r 0 x
  unfolding last_place
  place-none first x r = refl

  -- and then one more.
  pub place-more : (first p : ℕ) {u : ℤ} → u ≡ number_at table (first + p) → (x r : ℤ)
      → cond (is_number u x) (pos p) (last_place table first r p x) ≡ last_place table first r (p + 1) x
  unfolding last_place
  place-more first p e x r = rw (add-one, e) refl
