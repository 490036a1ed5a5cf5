-- The ends of a run's edges by their places: a number at a place is in some edge, and a number at no place is in none
-- (SPECIFICATION, "When a row is better": EXPLICIT). Assumes nothing.
use mathlib.Core.Path.{◌≡◌, sym, ◌∙◌}
use mathlib.Core.Logic.{◌⊎◌, inl, inr, ⊎_elim}
use mathlib.Core.Bool.{true, false, ◌||◌}
use mathlib.Core.List.{List}
use Prim.Native.Nat.{ℕ, zero, suc, ◌+◌, ◌*◌, ◌/◌, ◌%◌, ◌<◌, ◌≤◌}
use native.Mathlib.Omega.{arith}
use lib.Dec.{ltb}
use lib.IntN.{ℤ}
use borrow.Author.Tests.{ltb-true, ltb-false}
use Rattle.model.specs.declared.Record.{Record}
use Rattle.model.specs.Search.{any_in}
use Rattle.model.specs.Bytes.{eq_z}
use Rattle.model.specs.Record.{record_at, u_at, v_at}
use Rattle.model.specs.Better.{in_edge}
use Rattle.laws.specs.Bools.{on-or-off, off, or_l, or_r, or_cases, eq_z→≡, ≡→eq_z}
use Rattle.laws.specs.Runs.{values_between, between_none, between_more}
use Rattle.records.specs.Fields.{value_at}
use Rattle.terms.specs.Prepared.{number_at}

module _ (table : List ℕ) where
  -- u of record i stands at 2i, v at 2i + 1.
  pub number-u : (i : ℕ) → number_at table (2 * i) ≡ u_at table i
  unfolding number_at
  number-u i =
      let p : 2 * i % 2 ≡ 0 = omega arith in
      let q : 2 * i / 2 ≡ i = omega arith in
      rw (p, q)

  pub number-v : (i : ℕ) → number_at table (2 * i + 1) ≡ v_at table i
  unfolding number_at
  number-v i =
      let p : (2 * i + 1) % 2 ≡ 1 = omega arith in
      let q : (2 * i + 1) / 2 ≡ i = omega arith in
      rw (p, q)

  -- A place of record i is one of the two.
  places : (p i : ℕ) → 2 * i ≤ p → p < 2 * suc i → (p ≡ 2 * i) ⊎ (p ≡ 2 * i + 1)
  places p i l m =
      ⊎_elim (λ t. inl (omega (arith, ltb-true p (2 * i + 1) t))) (λ t. inr (omega (arith, ltb-false p (2 * i + 1) t)))
      (on-or-off (ltb p (2 * i + 1)))

  -- What stands at a place of record i is u or v of it.
  number_of : (p i : ℕ) (x : ℤ) → 2 * i ≤ p → p < 2 * suc i → number_at table p ≡ x
      → (eq_z x (u_at table i) || eq_z x (v_at table i)) ≡ true
  number_of p i x l m e =
      ⊎_elim
      (λ q. or_l _ (≡→eq_z (sym e ∙ rw q (number-u i))))
      (λ q. or_r (eq_z x (u_at table i)) (≡→eq_z (sym e ∙ rw q (number-v i))))
      (places p i l m)

  -- The records between k and e are values.
  abbrev pub AllValues : ℕ → ℕ → Type 0
  AllValues k e = (i : ℕ) → k < i → i < e → record_at table i ≡ Record.Value (value_at table i)

  -- One edge more.
  edge_more : (k e : ℕ) (x : ℤ) → k < e → record_at table e ≡ Record.Value (value_at table e)
      → in_edge (values_between table k (suc e)) x
      ≡ ((eq_z x (u_at table e) || eq_z x (v_at table e)) || in_edge (values_between table k e) x)
  unfolding in_edge any_in
  edge_more k e x h r = rw (between_more table k e (value_at table e) h r)

  no_edge : (k e : ℕ) (x : ℤ) → e ≤ suc k → in_edge (values_between table k e) x ≡ false
  unfolding in_edge any_in
  no_edge k e x h = rw (between_none table k e h)

  -- A number at a place is in some edge.
  pub place-named : (k e : ℕ) (x : ℤ) → AllValues k e → (p : ℕ) → 2 * k + 2 ≤ p → p < 2 * e → number_at table p ≡ x
      → in_edge (values_between table k e) x ≡ true
  place-named k zero x f p l m q = absurd (omega arith)
  place-named k (suc e) x f p l m q =
      ⊎_elim
      (λ t. rw (edge_more k e x (omega arith) (f e (omega arith) (omega arith)))
      (or_r (eq_z x (u_at table e) || eq_z x (v_at table e))
      (place-named k e x (λ i a b. f i a (omega arith)) p l (ltb-true p (2 * e) t) q)))
      (λ t. rw (edge_more k e x (omega arith) (f e (omega arith) (omega arith)))
      (or_l _ (number_of p e x (ltb-false p (2 * e) t) m q)))
      (on-or-off (ltb p (2 * e)))

  -- A number at no place is in none.
  pub place-unnamed : (k e : ℕ) (x : ℤ) → AllValues k e
      → ((p : ℕ) → 2 * k + 2 ≤ p → p < 2 * e → number_at table p ≡ x → ⊥)
      → in_edge (values_between table k e) x ≡ false
  place-unnamed k zero x f none = no_edge k zero x (omega arith)
  place-unnamed k (suc e) x f none = go (place-unnamed k e x (λ i a b. f i a (omega arith)) (λ p a b. none p a (omega arith)))
    where
      neither : k < e → (eq_z x (u_at table e) || eq_z x (v_at table e)) ≡ true → ⊥
      neither h t =
          ⊎_elim
          (λ u. none (2 * e) (omega arith) (omega arith) (number-u e ∙ sym (eq_z→≡ x (u_at table e) u)))
          (λ v. none (2 * e + 1) (omega arith) (omega arith) (number-v e ∙ sym (eq_z→≡ x (v_at table e) v)))
          (or_cases (eq_z x (u_at table e)) (eq_z x (v_at table e)) t)

      go : in_edge (values_between table k e) x ≡ false → in_edge (values_between table k (suc e)) x ≡ false
      go below =
          ⊎_elim
          (λ t. let h = ltb-true k e t in
          rw (edge_more k e x h (f e h (omega arith)), off (eq_z x (u_at table e) || eq_z x (v_at table e)) (neither h)) below)
          (λ t. no_edge k (suc e) x (omega (arith, ltb-false k e t)))
          (on-or-off (ltb k e))
