-- The code of two values by their ranks, for every base term but EXPLICIT (SPECIFICATION, "When a row is better"; codes as
-- in laws/specs/Codes.antt). Assumes nothing.
use Rattle.std.specs.Prelude.{◌≡◌, Bool, true, false, cond, List, ℕ, suc, ◌-◌, ◌<◌, ltb, ℤ, pos, negsuc}
use Rattle.std.proofs.Math.Path.{refl, sym}
use Rattle.std.proofs.Common.{◌∙◌, ap₂, true≢false, arith, ltb-true, ltb-false, lt-ltb, le-ltb}
use Rattle.std.specs.Int.Signed.{lt_z}
use Rattle.model.specs.declared.{Value.Value, BaseTerm.BaseTerm}
use Rattle.model.specs.declared.BaseTerm.TheVariants.{Lowest, Highest, Around, Between, Pos, Neg, PosNeg, PosPos}
use Rattle.model.specs.declared.BaseTerm.TheVariants.{Explicit, Any}
use Rattle.model.specs.Bytes.{eq_z}
use Rattle.model.specs.Better.{distance, distance_between, better_value}
use Rattle.laws.specs.Bools.{same_test}
use Rattle.laws.specs.Sound.{sound_base}
use Rattle.laws.specs.Ranks.{lowest-rank, highest-rank, around-rank, between-rank, pos-rank, neg-rank}
use Rattle.laws.specs.Ranks.{pos-neg-class, pos-pos-class}
use Rattle.laws.specs.ValueCodes.{tests_code, value_code}
use Rattle.laws.specs.Runs.{values_between}
use Rattle.ranks.specs.Rank.{mirror, centred, rank_of, RankAt}

-- Whether the term is EXPLICIT, the one that has no rank.
unfoldable pub is_explicit : BaseTerm → Bool
is_explicit Lowest = false
is_explicit Highest = false
is_explicit (Around wish) = false
is_explicit (Between low up) = false
is_explicit Pos = false
is_explicit Neg = false
is_explicit PosNeg = false
is_explicit PosPos = false
is_explicit Explicit = true
is_explicit Any = false

-- -1 - x turns the order,
pub mirror-less : (x y : ℤ) → lt_z (mirror x) (mirror y) ≡ lt_z y x
unfolding mirror
mirror-less (pos a) (pos b) = refl
mirror-less (pos a) (negsuc b) = refl
mirror-less (negsuc a) (pos b) = refl
mirror-less (negsuc a) (negsuc b) = refl

-- and keeps numbers apart.
mirror-same : (x y : ℤ) → eq_z (mirror x) (mirror y) ≡ eq_z x y
unfolding mirror eq_z
mirror-same (pos a) (pos b) = refl
mirror-same (pos a) (negsuc b) = refl
mirror-same (negsuc a) (pos b) = refl
mirror-same (negsuc a) (negsuc b) = refl

-- A moved distance is less where the distance is.
pub centred-less : (a b : ℕ) → lt_z (centred a) (centred b) ≡ ltb a b
unfolding centred
centred-less a b = go (ltb a 2147483648) refl (ltb b 2147483648) refl
  where
    moved : Bool → ℕ → ℤ
    moved t d = cond t (negsuc (2147483648 - suc d)) (pos (d - 2147483648))

    both : (c d : ℕ) → (c < d → a < b) → (a < b → c < d) → ltb c d ≡ ltb a b
    both c d f g =
        same_test (ltb c d) (ltb a b) (λ l. lt-ltb a b (f (ltb-true c d l))) (λ l. lt-ltb c d (g (ltb-true a b l)))

    go : (s : Bool) → ltb a 2147483648 ≡ s → (t : Bool) → ltb b 2147483648 ≡ t → lt_z (moved s a) (moved t b) ≡ ltb a b
    go true h true k =
        let u = ltb-true a 2147483648 h in
        let v = ltb-true b 2147483648 k in
        both (2147483648 - suc b) (2147483648 - suc a) (λ l. omega (arith, u, v)) (λ l. omega (arith, u, v))
    go true h false k = sym (lt-ltb a b (omega (arith, ltb-true a 2147483648 h, ltb-false b 2147483648 k)))
    go false h true k = sym (le-ltb a b (omega (arith, ltb-false a 2147483648 h, ltb-true b 2147483648 k)))
    go false h false k =
        let u = ltb-false a 2147483648 h in
        let v = ltb-false b 2147483648 k in
        both (a - 2147483648) (b - 2147483648) (λ l. omega (arith, u, v)) (λ l. omega (arith, u, v))

module _ (values : List Value) where
  -- ANY: none is better.
  none-better : (x y : ℤ) → better_value Any values x y ≡ false
  unfolding better_value
  none-better x y = refl

  -- The lower rank is better.
  pub by_rank : (b : BaseTerm) → sound_base b values ≡ true → is_explicit b ≡ false → (x y : ℤ)
      → better_value b values x y ≡ lt_z (rank_of b values y) (rank_of b values x)
  unfolding sound_base is_explicit rank_of
  by_rank Lowest s h x y = lowest-rank values x y
  by_rank Highest s h x y = highest-rank values x y ∙ sym (mirror-less y x)
  by_rank (Around wish) s h x y = around-rank values x y wish ∙ sym (centred-less (distance wish y) (distance wish x))
  by_rank (Between low up) s h x y =
      between-rank values x y low up ∙ sym (centred-less (distance_between low up y) (distance_between low up x))
  by_rank Pos s h x y = pos-rank values x y
  by_rank Neg s h x y = neg-rank values x y
  by_rank PosNeg s h x y = pos-neg-class values s x y
  by_rank PosPos s h x y = pos-pos-class values s x y
  by_rank Explicit s h x y = absurd (true≢false h)
  by_rank Any s h x y = none-better x y

-- So the code of two values is that of three tests: equal, and their ranks either way.
pub rank-code : (b : BaseTerm) (values : List Value) → sound_base b values ≡ true → is_explicit b ≡ false → (x y : ℤ)
    → value_code b values x y
    ≡ tests_code (eq_z x y) (lt_z (rank_of b values x) (rank_of b values y)) (lt_z (rank_of b values y) (rank_of b values x))
unfolding value_code
rank-code b values s h x y =
    ap₂ (λ (p q : Bool). tests_code (eq_z x y) p q) (by_rank values b s h y x) (by_rank values b s h x y)

-- LOWEST and HIGHEST: ranks are equal exactly where the numbers are.
pub lowest-same : (values : List Value) (x y : ℤ) → eq_z (rank_of Lowest values x) (rank_of Lowest values y) ≡ eq_z x y
unfolding rank_of
lowest-same values x y = refl

pub highest-same : (values : List Value) (x y : ℤ) → eq_z (rank_of Highest values x) (rank_of Highest values y) ≡ eq_z x y
unfolding rank_of
highest-same values x y = mirror-same x y

-- Every term but EXPLICIT has a rank that its values give.
pub rank_is : (table : List ℕ) (k e : ℕ) (t : BaseTerm) → is_explicit t ≡ false → (y r : ℤ) → RankAt table k e t y r
    → r ≡ rank_of t (values_between table k e) y
unfolding is_explicit
rank_is table k e Lowest h y r q = q
rank_is table k e Highest h y r q = q
rank_is table k e (Around wish) h y r q = q
rank_is table k e (Between low up) h y r q = q
rank_is table k e Pos h y r q = q
rank_is table k e Neg h y r q = q
rank_is table k e PosNeg h y r q = q
rank_is table k e PosPos h y r q = q
rank_is table k e Explicit h y r q = absurd (true≢false h)
rank_is table k e Any h y r q = q

module _ (table : List ℕ) (k e : ℕ) (t : BaseTerm) (h : is_explicit t ≡ false)
    (s : sound_base t (values_between table k e) ≡ true) where
  -- The code of two values by ranks as they are held,
  pub ranks-code : (v w x y : ℤ) → RankAt table k e t v x → RankAt table k e t w y
      → tests_code (eq_z v w) (lt_z x y) (lt_z y x) ≡ value_code t (values_between table k e) v w
  ranks-code v w x y p q =
      rw (rank_is table k e t h v x p, rank_is table k e t h w y q) (sym (rank-code t (values_between table k e) s h v w))

  -- and by ranks alone, where equal ranks are equal values.
  pub order-code : ((y z : ℤ) → eq_z (rank_of t (values_between table k e) y) (rank_of t (values_between table k e) z) ≡ eq_z y z)
      → (v w x y : ℤ) → RankAt table k e t v x → RankAt table k e t w y
      → tests_code (eq_z x y) (lt_z x y) (lt_z y x) ≡ value_code t (values_between table k e) v w
  order-code same v w x y p q =
      rw (rank_is table k e t h v x p, rank_is table k e t h w y q, same v w)
      (sym (rank-code t (values_between table k e) s h v w))

-- No other term is EXPLICIT.
pub explicit-is : (t : BaseTerm) → is_explicit t ≡ true → t ≡ Explicit
unfolding is_explicit
explicit-is Lowest h = absurd (true≢false (sym h))
explicit-is Highest h = absurd (true≢false (sym h))
explicit-is (Around wish) h = absurd (true≢false (sym h))
explicit-is (Between low up) h = absurd (true≢false (sym h))
explicit-is Pos h = absurd (true≢false (sym h))
explicit-is Neg h = absurd (true≢false (sym h))
explicit-is PosNeg h = absurd (true≢false (sym h))
explicit-is PosPos h = absurd (true≢false (sym h))
explicit-is Explicit h = refl
explicit-is Any h = absurd (true≢false (sym h))
