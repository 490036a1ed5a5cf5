-- The code of two different values by their ranks (SPECIFICATION, "Compare"). Assumes nothing.
use Rattle.std.proofs.Common.{◌≡◌, refl, ℕ, ℤ, Bool, true, false, cond, ltb, eqb, List, arith, ltb-false, le-ltb, lt-ltb, eqb-true}
use Rattle.std.proofs.Common.{nat_cmp, int_cmp, Less, Greater, Equal}
use Rattle.std.specs.Int.Signed.{lt_z}
use borrow.Author.Tests.{eqb-false}
use Rattle.model.specs.declared.{Value.Value, BaseTerm.BaseTerm}
use Rattle.model.specs.Better.{better_value}
use Rattle.laws.specs.ValueCodes.{tests_code, apart_code, rank_code}
use Rattle.compare.specs.Order.{order_code}

-- The order of two numbers gives the code of two tests,
by_tests : (s t : Bool) → order_code (cond s Less (cond t Greater Equal)) ≡ tests_code false s t
unfolding tests_code
by_tests true true = refl
by_tests true false = refl
by_tests false true = refl
by_tests false false = refl

pub order-signed : (x y : ℤ) → order_code (int_cmp x y) ≡ tests_code false (lt_z x y) (lt_z y x)
order-signed x y = by_tests (lt_z x y) (lt_z y x)

-- and that of two ranks the code of the ranks.
pub order-rank : (x y : ℕ) → order_code (nat_cmp x y) ≡ rank_code x y
unfolding rank_code tests_code
order-rank x y = go (ltb x y) refl (eqb x y) refl
  where
    go : (s : Bool) → ltb x y ≡ s → (t : Bool) → eqb x y ≡ t
        → order_code (cond s Less (cond t Equal Greater)) ≡ tests_code false s (ltb y x)
    go true e t f = refl
    go false e true f = rw (le-ltb y x (omega (arith, eqb-true x y f)))
    go false e false f = rw (lt-ltb y x (omega (arith, ltb-false x y e, eqb-false x y f)))

module _ (b : BaseTerm) (values : List Value) where
  -- The lower rank is better.
  pub by_rank : (rank : ℤ → ℕ) → ((x y : ℤ) → better_value b values x y ≡ ltb (rank y) (rank x)) → (x y : ℤ)
      → order_code (nat_cmp (rank x) (rank y)) ≡ apart_code b values x y
  unfolding rank_code apart_code
  by_rank rank r x y = rw (r x y, r y x) (order-rank (rank x) (rank y))
