-- The rows of the constant table are the fields that the model wants zero, kind by kind. Assumes nothing.
use mathlib.Core.Path.{◌≡◌, refl, sym, ◌∙◌, ap}
use mathlib.Core.Logic.{⊎_elim}
use mathlib.Core.Bool.{Bool, true, false, cond, not, ◌&&◌, ◌||◌, or-false, and-false, and-true, true≢false}
use Prim.Native.Nat.{ℕ, ◌+◌, ◌-◌, ◌<◌, ◌≤◌}
use native.Mathlib.Omega.{arith}
use lib.Dec.{eqb, ltb, leb}
use lib.IntN.{ℤ, pos}
use borrow.Author.Tests.{eqb-true, ne_eqb, leb-true, ltb-true, ltb-false, le-ltb}
use Rattle.model.specs.declared.{Record.Record}
use Rattle.model.specs.declared.BaseTerm.TheVariants.{Lowest, Highest, Around, Between, Pos, Neg, PosNeg, PosPos}
use Rattle.model.specs.declared.BaseTerm.TheVariants.{Explicit, Any}
use Rattle.model.specs.declared.CompoundTerm.TheVariants.{Joined, Dual}
use Rattle.model.specs.declared.Record.TheVariants.{Base, Compound, Unknown}
use Rattle.model.specs.Record.{record_of}
use Rattle.model.specs.Check.{filler}
use Rattle.laws.specs.Bools.{on-or-off, and_l, and_r}
use Rattle.table.specs.Filler.{has_field, must_be_zero, in_list, row_of, zero_row}

-- The fields that must be zero, one by one, are the model's FILLER.
pub filler-fields : (r : Record) (q s u v : Bool)
    → (has_field (must_be_zero r) 2 && q || has_field (must_be_zero r) 4 && s
    || has_field (must_be_zero r) 8 && u || has_field (must_be_zero r) 16 && v)
    ≡ filler r q s u v
unfolding has_field
filler-fields (Record.Value a) q s u v = go (eqb a.role 4)
  where
    go : (edge : Bool)
        → (has_field (cond edge 6 22) 2 && q || has_field (cond edge 6 22) 4 && s
        || has_field (cond edge 6 22) 8 && u || has_field (cond edge 6 22) 16 && v)
        ≡ (q || s || v && not edge)
    go true = rw (and-false v) (or-false (q || s || false))
    go false = rw (and-true v, or-false (q || s))
filler-fields (Base column Lowest) q s u v = refl
filler-fields (Base column Highest) q s u v = refl
filler-fields (Base column (Around wish)) q s u v = rw (or-false (q || s))
filler-fields (Base column (Between low up)) q s u v = rw (or-false (q || s), or-false (q || s))
filler-fields (Base column Pos) q s u v = refl
filler-fields (Base column Neg) q s u v = refl
filler-fields (Base column PosNeg) q s u v = refl
filler-fields (Base column PosPos) q s u v = refl
filler-fields (Base column Explicit) q s u v = refl
filler-fields (Base column Any) q s u v = refl
filler-fields (Compound (Joined op left right)) q s u v = refl
filler-fields (Compound (Dual part)) q s u v = refl
filler-fields Unknown q s u v = refl

zero-cond : (b : Bool) (x y : Record) → must_be_zero (cond b x y) ≡ cond b (must_be_zero x) (must_be_zero y)
zero-cond true x y = refl
zero-cond false x y = refl

-- Only a value's role bears on the row.
zero-others : (kind p q : ℕ) (u v : ℤ) → eqb kind 0 ≡ false
    → must_be_zero (record_of kind 0 0 (pos 0) (pos 0)) ≡ must_be_zero (record_of kind p q u v)
unfolding record_of
zero-others kind p q u v e = rw e (simp zero-cond)

-- A kind that is not in the list has no field that must be zero.
pub zero-unknown : (kind p q : ℕ) (u v : ℤ) → in_list kind ≡ false → must_be_zero (record_of kind p q u v) ≡ must_be_zero Unknown
unfolding record_of in_list
zero-unknown kind p q u v out =
    simp (
      other 0 refl,
      other 1 refl,
      other 2 refl,
      other 3 refl,
      other 4 refl,
      other 5 refl,
      other 6 refl,
      other 7 refl,
      other 8 refl,
      other 9 refl,
      other 10 refl,
      other 16 refl,
      other 17 refl,
      other 18 refl,
      other 19 refl,
    )
  where
    other : (n : ℕ) → in_list n ≡ true → eqb kind n ≡ false
    other n is = ne_eqb kind n (λ e. true≢false (sym is ∙ ap in_list (sym e) ∙ out))

-- A kind of the list that is none of the first 11 is one of 16 to 19.
pub in-second : (kind : ℕ) → in_list kind ≡ true → 11 ≤ kind → (16 ≤ kind) × (kind < 20)
unfolding in_list
in-second kind is h =
    let b : (leb 16 kind && ltb kind 20) ≡ true = rw (le-ltb kind 11 h) at is in
    (leb-true 16 kind (and_l _ (ltb kind 20) b), ltb-true kind 20 (and_r (leb 16 kind) _ b))

zero-value : (p q : ℕ) (u v : ℤ) → zero_row (row_of 0 p) ≡ must_be_zero (record_of 0 p q u v)
unfolding row_of record_of
zero-value p q u v = ⊎_elim (λ e. rw e) (λ e. rw e) (on-or-off (eqb p 4))

row_low : (kind p : ℕ) → eqb kind 0 ≡ false → ltb kind 11 ≡ true → row_of kind p ≡ kind
unfolding row_of
row_low kind p e l = rw (e, l)

row-high : (kind p : ℕ) → eqb kind 0 ≡ false → ltb kind 11 ≡ false → row_of kind p ≡ kind - 4
unfolding row_of
row-high kind p e l = rw (e, l)

-- The row of the constant table has them.
pub zero-rows : (kind p q : ℕ) (u v : ℤ) → in_list kind ≡ true → zero_row (row_of kind p) ≡ must_be_zero (record_of kind p q u v)
zero-rows kind p q u v is =
    ⊎_elim (λ e. rw (eqb-true kind 0 e) (zero-value p q u v)) (λ e. ⊎_elim (low e) (high e) (on-or-off (ltb kind 11))) (on-or-off (eqb kind 0))
  where
    low : eqb kind 0 ≡ false → ltb kind 11 ≡ true → zero_row (row_of kind p) ≡ must_be_zero (record_of kind p q u v)
    low e l = ap zero_row (row_low kind p e l) ∙ rw (ne_eqb kind 11 (λ z. omega (arith, ltb-true kind 11 l)), l) (zero-others kind p q u v e)

    high : eqb kind 0 ≡ false → ltb kind 11 ≡ false → zero_row (row_of kind p) ≡ must_be_zero (record_of kind p q u v)
    high e l =
        let h = in-second kind is (ltb-false kind 11 l) in
        let same : kind - 4 + 4 ≡ kind = omega (arith, h.0) in
        ap zero_row (row-high kind p e l)
        ∙ rw (ne_eqb (kind - 4) 11 (λ z. omega (arith, h.0)), le-ltb (kind - 4) 11 (omega (arith, h.0)), same) (zero-others kind p q u v e)
