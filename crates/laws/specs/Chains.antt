-- A chain (SPECIFICATION, "Chains") ranks any two rows that differ in its columns. Assumes nothing.
use Rattle.std.specs.Prelude.{◌≡◌, refl, ◌⊎◌, true, List, ℕ, ◌<◌, ltb, eqb, ℤ, pos, negsuc}
use Rattle.std.proofs.Common.{◌∙◌, inl, inr, ⊎_elim, arith, ltb-true, ltb-false, eq-eqb}
use Rattle.std.proofs.lemmas.Bool.{false≢true}
use Rattle.std.specs.Int.Signed.{lt_z}
use Rattle.model.specs.declared.{Value.Value, BaseTerm.BaseTerm}
use Rattle.model.specs.declared.BaseTerm.TheVariants.{Lowest, Highest, Around, Between, Pos, Neg, PosNeg, PosPos}
use Rattle.model.specs.declared.BaseTerm.TheVariants.{Explicit, Any}
use Rattle.model.specs.declared.Pair.TheVariants.{Pareto, Prior, Both}
use Rattle.model.specs.Bytes.{eq_z}
use Rattle.model.specs.Term.{Term, base, pair, dual}
use Rattle.model.specs.Better.{better_value, Row, cell, equal, better}
use Rattle.model.specs.Demand.{is_chain}
use Rattle.laws.specs.Bools.{and_l, and_r, and_i, or_l, or_r, on-or-off}
use Rattle.laws.specs.Sound.{within}
use Rattle.laws.specs.Columns.{equal-base, equal-pair, equal-dual, equal-sym}

abbrev Either : Type 0 → Type 0 → Type 0 → Type 0
Either A B C = A ⊎ (B ⊎ C)

exchange : {A B C : Type 0} → Either A B C → Either B A C
exchange (inl p) = inr (inl p)
exchange (inr (inl p)) = inl p
exchange (inr (inr p)) = inr (inr p)

ltb-total : (a b : ℕ) → Either (ltb a b ≡ true) (ltb b a ≡ true) (eqb a b ≡ true)
ltb-total a b =
    ⊎_elim inl
    (λ p. inr (⊎_elim inl (λ q. inr (eq-eqb a b (omega (arith, ltb-false)))) (on-or-off (ltb b a))))
    (on-or-off (ltb a b))

lt_z-total : (a b : ℤ) → Either (lt_z a b ≡ true) (lt_z b a ≡ true) (eq_z a b ≡ true)
unfolding eq_z
lt_z-total (pos a) (pos b) = ltb-total a b
lt_z-total (pos a) (negsuc b) = inr (inl refl)
lt_z-total (negsuc a) (pos b) = inl refl
lt_z-total (negsuc a) (negsuc b) = exchange (ltb-total a b)

-- y is better than x, x is better than y, or they are equal in the term's columns.
abbrev pub Ranked : Term → Row → Row → Type 0
Ranked t x y = Either (better t x y ≡ true) (better t y x ≡ true) (equal t x y ≡ true)

ranked-base : (column : ℕ) (b : BaseTerm) (values : List Value) → column < 8 → (x y : Row)
    → Either
    (better_value b values (cell x column) (cell y column) ≡ true)
    (better_value b values (cell y column) (cell x column) ≡ true)
    (eq_z (cell x column) (cell y column) ≡ true)
    → Ranked (base column b values) x y
unfolding better
ranked-base column b values h x y (inl p) = inl p
ranked-base column b values h x y (inr (inl p)) = inr (inl p)
ranked-base column b values h x y (inr (inr p)) = inr (inr (equal-base column b values h x y ∙ p))

ranked-prior : (l r : Term) (x y : Row) → Ranked l x y → Ranked r x y → Ranked (pair Prior l r) x y
unfolding better
ranked-prior l r x y (inl p) q = inl (or_l _ p)
ranked-prior l r x y (inr (inl p)) q = inr (inl (or_l _ p))
ranked-prior l r x y (inr (inr p)) (inl q) = inl (or_r (better l x y) (and_i p q))
ranked-prior l r x y (inr (inr p)) (inr (inl q)) = inr (inl (or_r (better l y x) (and_i (equal-sym l x y p) q)))
ranked-prior l r x y (inr (inr p)) (inr (inr q)) = inr (inr (equal-pair Prior l r x y ∙ and_i p q))

ranked-dual : (t : Term) (x y : Row) → Ranked t x y → Ranked (dual t) x y
unfolding better
ranked-dual t x y (inl p) = inr (inl p)
ranked-dual t x y (inr (inl p)) = inl p
ranked-dual t x y (inr (inr p)) = inr (inr (equal-dual t x y ∙ p))

-- A chain ranks any two rows that differ in its columns.
pub chain-ranks : (t : Term) → is_chain t ≡ true → within 8 t ≡ true → (x y : Row) → Ranked t x y
unfolding is_chain within better_value
chain-ranks (base column Lowest values) c w x y =
    ranked-base column Lowest values (ltb-true column 8 w) x y (exchange (lt_z-total (cell x column) (cell y column)))
chain-ranks (base column Highest values) c w x y =
    ranked-base column Highest values (ltb-true column 8 w) x y (lt_z-total (cell x column) (cell y column))
chain-ranks (base column (Around wish) values) c w x y = absurd (false≢true c)
chain-ranks (base column (Between low up) values) c w x y = absurd (false≢true c)
chain-ranks (base column Pos values) c w x y = absurd (false≢true c)
chain-ranks (base column Neg values) c w x y = absurd (false≢true c)
chain-ranks (base column PosNeg values) c w x y = absurd (false≢true c)
chain-ranks (base column PosPos values) c w x y = absurd (false≢true c)
chain-ranks (base column Explicit values) c w x y = absurd (false≢true c)
chain-ranks (base column Any values) c w x y = absurd (false≢true c)
chain-ranks (pair Pareto l r) c w x y = absurd (false≢true c)
chain-ranks (pair Prior l r) c w x y =
    ranked-prior l r x y
    (chain-ranks l (and_l _ (is_chain r) c) (and_l _ (within 8 r) w) x y)
    (chain-ranks r (and_r (is_chain l) _ c) (and_r (within 8 l) _ w) x y)
chain-ranks (pair Both l r) c w x y = absurd (false≢true c)
chain-ranks (dual t) c w x y = ranked-dual t x y (chain-ranks t c w x y)
