-- What a record's kind and bytes say of its parts, and of whether it is a term. Assumes nothing.
use mathlib.Core.Path.{◌≡◌, refl}
use mathlib.Core.Bool.{Bool, true, false, cond}
use mathlib.Core.List.{List}
use Prim.Native.Nat.{ℕ}
use lib.Dec.{eqb}
use lib.IntN.{ℤ}
use Rattle.model.specs.declared.{Record.Record}
use Rattle.model.specs.Search.{any_in}
use Rattle.model.specs.Record.{record_of, is_term, parts_of}

parts-cond : (b : Bool) (x y : Record) → parts_of (cond b x y) ≡ cond b (parts_of x) (parts_of y)
parts-cond true x y = refl
parts-cond false x y = refl

term-cond : (b : Bool) (x y : Record) → is_term (cond b x y) ≡ cond b (is_term x) (is_term y)
term-cond true x y = refl
term-cond false x y = refl

any-cond : (b : Bool) (x y : List ℕ) (test : ℕ → Bool) → any_in (cond b x y) test ≡ cond b (any_in x test) (any_in y test)
any-cond true x y test = refl
any-cond false x y test = refl

cond_same : (b : Bool) → cond {A = Bool} b false false ≡ false
cond_same true = refl
cond_same false = refl

-- The parts have nothing of the numbers,
pub parts-numbers : (kind p q : ℕ) (u v x y : ℤ) → parts_of (record_of kind p q u v) ≡ parts_of (record_of kind p q x y)
unfolding record_of
parts-numbers kind p q u v x y = simp (parts-cond)

-- and whether it is a term nothing but the kind.
pub term-kind : (kind p q a b : ℕ) (u v x y : ℤ) → is_term (record_of kind p q u v) ≡ is_term (record_of kind a b x y)
unfolding record_of
term-kind kind p q a b u v x y = simp (term-cond)

-- Where neither of its bytes is j, record j is no part.
pub no_part : (kind p q j : ℕ) (u v : ℤ) → eqb j p ≡ false → eqb j q ≡ false
    → any_in (parts_of (record_of kind p q u v)) (eqb j) ≡ false
unfolding record_of any_in
no_part kind p q j u v a b = simp (parts-cond, any-cond, a, b, cond_same)
