-- Better is a strict order for every sound term (the third promise: "strictly"), and respects the ties that compounds
-- read. Assumes nothing.
-- What a reader or a contract cites stands in specs/Strict.
use Rattle.std.specs.Prelude.{◌≡◌, true, List, ℕ, ltb, ℤ}
use Rattle.std.proofs.lemmas.Bool.{false≢true}
use Rattle.std.specs.Int.Signed.{lt_z}
use Rattle.model.specs.declared.{Value.Value, BaseTerm.BaseTerm}
use Rattle.model.specs.declared.BaseTerm.TheVariants.{Lowest, Highest, Around, Between, Pos, Neg, PosNeg, PosPos}
use Rattle.model.specs.declared.BaseTerm.TheVariants.{Explicit, Any}
use Rattle.model.specs.Term.{Term, base, pair, dual}
use Rattle.model.specs.Better.{Row, cell, distance, distance_between, equal, better_value, better}
use Rattle.laws.specs.Order.{Strict, strict-ext, strict-at, strict-flip, by_number, by-integer}
use Rattle.laws.specs.Order.{tied-unranked, asym}
use Rattle.laws.specs.Sound.{sound_base, sound, within, sound-left, sound-right}
use Rattle.laws.specs.Explicit.{explicit-strict}
use Rattle.laws.specs.Ranks.{lowest-rank, highest-rank, around-rank, between-rank, rank_pos, rank_neg, rank_pos_neg}
use Rattle.laws.specs.Ranks.{rank_pos_pos}
use Rattle.laws.specs.Ranks.{pos-rank, neg-rank, pos-neg-class, pos-pos-class}
use Rattle.laws.specs.Columns.{within-left, within-right}
use Rattle.laws.specs.Ties.{tied, better-pair, tied-ties, equal-ties}
use Rattle.laws.specs.Strict.{compound, compound-strict, Ordered}

-- ---- values

-- By rank, the lower is better.
by_rank : (b : BaseTerm) (values : List Value) (rank : ℤ → ℕ)
    → ((x y : ℤ) → better_value b values x y ≡ ltb (rank y) (rank x)) → Strict (better_value b values)
by_rank b values rank e =
    strict-ext (λ x y. ltb (rank y) (rank x)) (better_value b values) e (strict-at rank (λ m n. ltb n m) by_number)

any-strict : (values : List Value) → Strict (better_value Any values)
unfolding better_value
any-strict values = record { irrefl = λ x h. false≢true h; trans = λ x y z h k. h }

-- Better is a strict order on values, for every base term that the check lets pass.
pub value-strict : (b : BaseTerm) (values : List Value) → sound_base b values ≡ true → Strict (better_value b values)
unfolding sound_base
value-strict Lowest values s =
    strict-ext (λ x y. lt_z y x) (better_value Lowest values) (lowest-rank values) (strict-flip lt_z by-integer)
value-strict Highest values s = strict-ext lt_z (better_value Highest values) (highest-rank values) by-integer
value-strict (Around wish) values s = by_rank (Around wish) values (distance wish) (λ x y. around-rank values x y wish)
value-strict (Between low up) values s =
    by_rank (Between low up) values (distance_between low up) (λ x y. between-rank values x y low up)
value-strict Pos values s = by_rank Pos values (rank_pos values) (pos-rank values)
value-strict Neg values s = by_rank Neg values (rank_neg values) (neg-rank values)
value-strict PosNeg values s = by_rank PosNeg values (rank_pos_neg values) (pos-neg-class values s)
value-strict PosPos values s = by_rank PosPos values (rank_pos_pos values) (pos-pos-class values s)
value-strict Explicit edges s = explicit-strict edges s
value-strict Any values s = any-strict values

term-strict : (t : Term) → sound t ≡ true → within 8 t ≡ true → Strict (better t)
unfolding better sound within
term-strict (base column b values) s w = strict-at (λ x. cell x column) (better_value b values) (value-strict b values s)
term-strict (pair op l r) s w =
    let wl = within-left 8 op l r w in
    let wr = within-right 8 op l r w in
    strict-ext (compound op (better l) (tied op l) (better r) (tied op r)) (better (pair op l r)) (better-pair op l r)
    (compound-strict (better l) (tied op l) (better r) (tied op r) op
    (term-strict l (sound-left op l r s) wl) (tied-ties l wl op)
    (term-strict r (sound-right op l r s) wr) (tied-ties r wr op))
term-strict (dual t) s w = strict-flip (better t) (term-strict t s w)

-- Every sound term over at most 8 columns is a strict order with its ties.
pub ordered : (t : Term) → sound t ≡ true → within 8 t ≡ true → Ordered t
ordered t s w = record { strict = term-strict t s w; ties = tied-ties t w }

module _ (t : Term) (s : sound t ≡ true) (w : within 8 t ≡ true) where
  -- No row is better than itself.
  pub irreflexive : (x : Row) → better t x x ≡ true → ⊥
  irreflexive = (ordered t s w).strict.irrefl

  -- Better than a better row is better.
  pub transitive : (x y z : Row) → better t x y ≡ true → better t y z ≡ true → better t x z ≡ true
  transitive = (ordered t s w).strict.trans

  -- Two rows are not each better than the other.
  pub asymmetric : (x y : Row) → better t x y ≡ true → better t y x ≡ true → ⊥
  asymmetric = asym (better t) (ordered t s w).strict

  -- Rows that are equal in the term's columns are not better than each other.
  pub equal-unranked : (x y : Row) → equal t x y ≡ true → better t x y ≡ true → ⊥
  equal-unranked = tied-unranked (better t) (equal t) (ordered t s w).strict (equal-ties t w)
