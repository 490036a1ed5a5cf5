-- The report's equivalence (Definition 13): P1 ≡ P2 where they have the same columns and are better at the
-- same rows; and its Proposition 2, commutative and associative laws, as theorems about `better`. Assumes nothing.
-- Left out, since the specification has no such terms: 2 (e) disjoint union and 2 (f) linear sum. The text that we hold
-- shows no 2 (a).
use Rattle.std.specs.Prelude.{◌≡◌, refl, Bool, true, false, ◌&&◌, ◌||◌, List, ℕ}
use Rattle.std.proofs.Math.Bool.{and-false, and_comm, and_assoc, or_comm}
use Rattle.std.specs.Int.Bits.{or_comm as mask-comm}
use Rattle.model.specs.declared.{Value.Value, Pair.Pair}
use Rattle.model.specs.declared.BaseTerm.TheVariants.{Any}
use Rattle.model.specs.declared.Pair.TheVariants.{Pareto, Prior, Both}
use Rattle.model.specs.Term.{Term, base, pair, columns_of}
use Rattle.model.specs.Better.{Row, equal, better_value, better}
use Rattle.laws.specs.Masks.{bit_or-assoc}
use Rattle.laws.specs.Columns.{equal-pair}

-- Definition 13: the same columns, and better at the same rows.
pub record Equivalent (s t : Term) : Type 0 where
  pub columns : columns_of s ≡ columns_of t
  pub same : (x y : Row) → better s x y ≡ better t x y

-- Nothing is better: Definition 3 (b), anti-chain.
abbrev pub Antichain : Term → Type 0
Antichain a = (x y : Row) → better a x y ≡ false

-- ---- Proposition 2: commutative and associative laws

pareto-assoc : (b e c f d g : Bool)
    → ((b && (c || f) || c && (b || e)) && (d || g) || d && ((b && (c || f) || c && (b || e)) || e && f))
    ≡ (b && ((c && (d || g) || d && (c || f)) || f && g) || (c && (d || g) || d && (c || f)) && (b || e))
pareto-assoc true e true f true g = refl
pareto-assoc true e true f false true = refl
pareto-assoc true e true true false false = refl
pareto-assoc true e true false false false = refl
pareto-assoc true e false true true g = refl
pareto-assoc true e false true false g = refl
pareto-assoc true true false false true g = refl
pareto-assoc true false false false true g = refl
pareto-assoc true e false false false g = refl
pareto-assoc false true true f true g = refl
pareto-assoc false true true f false true = refl
pareto-assoc false true true f false false = refl
pareto-assoc false false true f true g = refl
pareto-assoc false false true f false true = refl
pareto-assoc false false true f false false = refl
pareto-assoc false true false true true g = refl
pareto-assoc false true false false true g = refl
pareto-assoc false false false true true g = refl
pareto-assoc false false false false true g = refl
pareto-assoc false e false f false g = refl

prior-assoc : (b e c f d : Bool) → ((b || e && c) || e && f && d) ≡ (b || e && (c || f && d))
prior-assoc true e c f d = refl
prior-assoc false true c f d = refl
prior-assoc false false c f d = refl

module _ (p1 p2 : Term) where
  -- 2 (b): P1⊗P2 ≡ P2⊗P1.
  pub pareto-commutes : Equivalent (pair Pareto p1 p2) (pair Pareto p2 p1)
  unfolding better columns_of
  pareto-commutes =
      record {
        columns = mask-comm (columns_of p1) (columns_of p2);
        same = λ x y.
            or_comm (better p1 x y && (better p2 x y || equal p2 x y)) (better p2 x y && (better p1 x y || equal p1 x y));
      }

  -- 2 (d): P1♦P2 ≡ P2♦P1.
  pub both-commutes : Equivalent (pair Both p1 p2) (pair Both p2 p1)
  unfolding better columns_of
  both-commutes =
      record { columns = mask-comm (columns_of p1) (columns_of p2); same = λ x y. and_comm (better p1 x y) (better p2 x y) }

module _ (p1 p2 p3 : Term) where
  -- 2 (b): (P1⊗P2)⊗P3 ≡ P1⊗(P2⊗P3).
  pub pareto-associates : Equivalent (pair Pareto (pair Pareto p1 p2) p3) (pair Pareto p1 (pair Pareto p2 p3))
  unfolding better columns_of
  pareto-associates =
      record {
        columns = bit_or-assoc (columns_of p1) (columns_of p2) (columns_of p3);
        same = λ x y. rw (equal-pair Pareto p1 p2 x y, equal-pair Pareto p2 p3 x y)
            (pareto-assoc (better p1 x y) (equal p1 x y) (better p2 x y) (equal p2 x y) (better p3 x y) (equal p3 x y));
      }

  -- 2 (c): (P1&P2)&P3 ≡ P1&(P2&P3).
  pub prior-associates : Equivalent (pair Prior (pair Prior p1 p2) p3) (pair Prior p1 (pair Prior p2 p3))
  unfolding better columns_of
  prior-associates =
      record {
        columns = bit_or-assoc (columns_of p1) (columns_of p2) (columns_of p3);
        same = λ x y. rw (equal-pair Prior p1 p2 x y)
            (prior-assoc (better p1 x y) (equal p1 x y) (better p2 x y) (equal p2 x y) (better p3 x y));
      }

  -- 2 (d): (P1♦P2)♦P3 ≡ P1♦(P2♦P3).
  pub both-associates : Equivalent (pair Both (pair Both p1 p2) p3) (pair Both p1 (pair Both p2 p3))
  unfolding better columns_of
  both-associates =
      record {
        columns = bit_or-assoc (columns_of p1) (columns_of p2) (columns_of p3);
        same = λ x y. and_assoc (better p1 x y) (better p2 x y) (better p3 x y);
      }

-- ---- anti-chains

-- ANY is an anti-chain.
pub any-antichain : (column : ℕ) (values : List Value) → Antichain (base column Any values)
unfolding better better_value
any-antichain column values x y = refl

-- So is every compound of anti-chains: there is one over every set of columns.
pub pair-antichain : (op : Pair) (a b : Term) → Antichain a → Antichain b → Antichain (pair op a b)
unfolding better
pair-antichain Pareto a b p q x y = rw (p x y, q x y)
pair-antichain Prior a b p q x y = rw (p x y, q x y, and-false (equal a x y))
pair-antichain Both a b p q x y = rw (p x y)
