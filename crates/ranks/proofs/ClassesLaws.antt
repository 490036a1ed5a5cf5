-- What the values of a term put for a number is its rank (SPECIFICATION, "When a row is better"). Assumes nothing.
use mathlib.Core.Path.{◌≡◌, refl, sym, ◌∙◌}
use mathlib.Core.Logic.{◌⊎◌, inl, inr, ⊎_elim}
use mathlib.Core.Bool.{Bool, true, false, cond, true≢false}
use mathlib.Core.List.{List}
use Prim.Native.Nat.{ℕ, zero, suc, ◌+◌, ◌*◌, ◌-◌, ◌<◌, ◌≤◌}
use native.Mathlib.Omega.{arith}
use lib.IntN.{ℤ, pos}
use borrow.Author.Tests.{lt-ltb, le-ltb}
use Rattle.model.specs.declared.Value.{Value}
use Rattle.model.specs.declared.BaseTerm.TheVariants.{Pos, Neg, PosNeg, PosPos}
use Rattle.model.specs.Bytes.{eq_z}
use Rattle.model.specs.Better.{in_role}
use Rattle.laws.specs.Bools.{eq_z→≡, ≡→eq_z}
use Rattle.laws.specs.Search.{lt-suc-cases}
use Rattle.laws.specs.Ranks.{rank_pos, rank_neg, rank_pos_neg, rank_pos_pos}
use Rattle.terms.specs.Run.{Values}
use Rattle.terms.specs.Prepared.{number_at, EndPlace}
use Rattle.terms.proofs.Ends.{place-named, place-unnamed}
use Rattle.ranks.specs.Rank.{rank_of, PlaceOf}
use Rattle.ranks.specs.Put.{is_number, one_role, two_roles, last_place, edge_place}

-- ---- classes

-- A choice of numbers, one by one.
one : (b : Bool) (n m : ℕ) → cond b (pos n) (pos m) ≡ pos (cond b n m)
one true n m = refl
one false n m = refl

two : (a b : Bool) (l n m : ℕ) → cond a (pos l) (cond b (pos n) (pos m)) ≡ pos (cond a l (cond b n m))
two true b l n m = refl
two false b l n m = one b n m

module _ (values : List Value) (x : ℤ) where
  pub pos-is : one_role values (pos 1) 1 (pos 0) x ≡ rank_of Pos values x
  unfolding one_role rank_of rank_pos
  pos-is = one (in_role 1 values x) 0 1

  pub neg_is : one_role values (pos 0) 2 (pos 1) x ≡ rank_of Neg values x
  unfolding one_role rank_of rank_neg
  neg_is = one (in_role 2 values x) 1 0

  pub pos-neg-is : two_roles values (pos 1) 2 (pos 2) x ≡ rank_of PosNeg values x
  unfolding two_roles one_role rank_of rank_pos_neg
  pos-neg-is = two (in_role 1 values x) (in_role 2 values x) 0 2 1

  pub pos-pos-is : two_roles values (pos 2) 3 (pos 1) x ≡ rank_of PosPos values x
  unfolding two_roles one_role rank_of rank_pos_pos
  pos-pos-is = two (in_role 1 values x) (in_role 3 values x) 0 1 2

-- ---- places

module _ (table : List ℕ) (first : ℕ) (x : ℤ) where
  -- The number stands at none of the first n places.
  abbrev Nowhere : ℕ → Type 0
  Nowhere n = (p : ℕ) → p < n → number_at table (first + p) ≡ x → ⊥

  -- r is one of n places of x, counted from `first`, or `none` where x is at none of them.
  record Placed (none n : ℕ) (r : ℤ) : Type 0 where
    pub place : ℕ
    pub is : r ≡ pos place
    pub cases : ((place < n) × (number_at table (first + place) ≡ x)) ⊎ ((place ≡ none) × Nowhere n)

  nowhere-more : (n : ℕ) → eq_z x (number_at table (first + n)) ≡ false → Nowhere n → Nowhere (suc n)
  nowhere-more n e f p l q =
      ⊎_elim (λ h. f p h q) (λ h. true≢false (sym (≡→eq_z (sym (rw h at q))) ∙ e)) (lt-suc-cases p n l)

  -- One place more.
  placed-more : (none n : ℕ) (r : ℤ) (t : Bool) → eq_z x (number_at table (first + n)) ≡ t → Placed none n r
      → Placed none (suc n) (cond t (pos n) r)
  placed-more none n r true e c =
      record { place = n; is = refl; cases = inl (omega arith, sym (eq_z→≡ x (number_at table (first + n)) e)) }
  placed-more none n r false e c =
      record {
        place = c.place;
        is = c.is;
        cases = ⊎_elim (λ h. inl (omega (arith, h.0), h.1)) (λ h. inr (h.0, nowhere-more n e h.1)) c.cases;
      }

  last-is : (none n : ℕ) → Placed none n (last_place table first (pos none) n x)
  unfolding last_place is_number
  last-is none zero = record { place = none; is = refl; cases = inr (refl, λ p l q. absurd (omega (arith, l))) }
  last-is none (suc n) =
      placed-more none n (last_place table first (pos none) n x) (eq_z x (number_at table (first + n))) refl (last-is none n)

-- What EXPLICIT's edges put is a place.
pub place_is : (table : List ℕ) (k e : ℕ) → Values table k e → (x : ℤ) → PlaceOf table k e x (edge_place table k e x)
unfolding edge_place
place_is table k e v x = go (last-is table (2 * k + 2) x (2 * e - (2 * k + 2)) (2 * e - (2 * k + 2)))
  where
    here : (p : ℕ) → p < 2 * e - (2 * k + 2) → number_at table (2 * k + 2 + p) ≡ x → EndPlace table k e x (2 * k + 2 + p)
    here p l q =
        let b : 2 * k + 2 + p < 2 * e = omega (arith, l) in
        record {
          low = omega arith;
          high = omega (arith, b);
          found = λ h. q;
          named = place-named table k e x v.each (2 * k + 2 + p) (omega arith) b q ∙ sym (lt-ltb (2 * k + 2 + p) (2 * e) b);
        }

    nowhere : (p : ℕ) → p ≡ 2 * e - (2 * k + 2) → Nowhere table (2 * k + 2) x (2 * e - (2 * k + 2))
        → EndPlace table k e x (2 * k + 2 + p)
    nowhere p l f =
        let b : 2 * k + 2 + p ≡ 2 * e = omega (arith, l, v.before) in
        record {
          low = omega arith;
          high = omega (arith, b);
          found = λ h. absurd (omega (arith, b, h));
          named = place-unnamed table k e x v.each
              (λ i a c q. f (i - (2 * k + 2)) (omega (arith, a, c)) (back i a q))
              ∙ sym (le-ltb (2 * k + 2 + p) (2 * e) (omega (arith, b)));
        }
      where
        back : (i : ℕ) → 2 * k + 2 ≤ i → number_at table i ≡ x → number_at table (2 * k + 2 + (i - (2 * k + 2))) ≡ x
        back i a q = let d : 2 * k + 2 + (i - (2 * k + 2)) ≡ i = omega (arith, a) in rw d q

    go : {r : ℤ} → Placed table (2 * k + 2) x (2 * e - (2 * k + 2)) (2 * e - (2 * k + 2)) r → PlaceOf table k e x r
    go c =
        record {
          place = c.place;
          is = c.is;
          ends = ⊎_elim (λ h. here c.place h.0 h.1) (λ h. nowhere c.place h.0 h.1) c.cases;
        }
