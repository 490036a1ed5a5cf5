-- The report's Proposition 3, further laws for preference terms (section 4.1), as theorems about `better`.
-- A↔ is any term over the columns A under which nothing is better. Assumes nothing.
-- Left out, since the specification has no linear sum: 3 (c). The text that we hold shows no 3 (h).
use Rattle.std.specs.Prelude.{◌≡◌, Bool, not, ◌&&◌, ◌||◌, List, ℕ, ℤ}
use Rattle.std.proofs.Math.Path.{refl, sym}
use Rattle.std.proofs.Common.{◌∙◌}
use Rattle.std.proofs.Math.Bool.{true, false, and-false, or-false, and_self, and_comm}
use Rattle.std.specs.Int.Bits.{or_self as mask-self}
use Rattle.model.specs.declared.{Value.Value}
use Rattle.model.specs.declared.BaseTerm.TheVariants.{Lowest, Highest, Pos, Neg}
use Rattle.model.specs.declared.Pair.TheVariants.{Pareto, Prior, Both}
use Rattle.model.specs.Term.{Term, base, pair, dual, columns_of}
use Rattle.model.specs.Better.{cell, favourite, disliked, equal, better_value, better}
use Rattle.laws.specs.Sound.{sound, within}
use Rattle.laws.specs.Equivalence.{Equivalent, Antichain}

-- ---- dual preferences

-- 3 (a): the dual of an anti-chain is that anti-chain.
pub dual-antichain : (a : Term) → Antichain a → Equivalent (dual a) a
unfolding better columns_of
dual-antichain a none = record { columns = refl; same = λ x y. none y x ∙ sym (none x y) }

-- 3 (b): the dual of the dual is the preference itself.
pub dual_dual : (p : Term) → Equivalent (dual (dual p)) p
unfolding better columns_of
dual_dual p = record { columns = refl; same = λ x y. refl }

-- 3 (d): HIGHEST is the dual of LOWEST.
pub highest-dual-lowest : (column : ℕ) (values : List Value)
    → Equivalent (base column Highest values) (dual (base column Lowest values))
unfolding better better_value columns_of
highest-dual-lowest column values = record { columns = refl; same = λ x y. refl }

module _ (column : ℕ) (favourites dislikes : List Value)
    (sets : (x : ℤ) → favourite favourites x ≡ disliked dislikes x) where
  -- 3 (e): the dual of POS is NEG if the POS-set is the NEG-set,
  pub dual-pos : Equivalent (dual (base column Pos favourites)) (base column Neg dislikes)
  unfolding better better_value columns_of
  dual-pos =
      record {
        columns = refl;
        same = λ x y. rw (sets (cell x column), sets (cell y column))
            (and_comm (not (disliked dislikes (cell y column))) (disliked dislikes (cell x column)));
      }

  -- and the dual of NEG is POS.
  pub dual-neg : Equivalent (dual (base column Neg dislikes)) (base column Pos favourites)
  unfolding better better_value columns_of
  dual-neg =
      record {
        columns = refl;
        same = λ x y. rw (sets (cell x column), sets (cell y column))
            (and_comm (disliked dislikes (cell y column)) (not (disliked dislikes (cell x column))));
      }

-- ---- one preference with itself

prior-self : (b e : Bool) → (b || e && b) ≡ b
prior-self true e = refl
prior-self false e = and-false e

pareto-self : (b e : Bool) → (b && (b || e) || b && (b || e)) ≡ b
pareto-self true e = refl
pareto-self false e = refl

module _ (p : Term) where
  -- 3 (f): P♦P ≡ P.
  pub both-idempotent : Equivalent (pair Both p p) p
  unfolding better columns_of
  both-idempotent = record { columns = mask-self (columns_of p); same = λ x y. and_self (better p x y) }

  -- 3 (i): P&P ≡ P,
  pub prior-idempotent : Equivalent (pair Prior p p) p
  unfolding better columns_of
  prior-idempotent = record { columns = mask-self (columns_of p); same = λ x y. prior-self (better p x y) (equal p x y) }

  -- 3 (l): P⊗P ≡ P.
  pub pareto-idempotent : Equivalent (pair Pareto p p) p
  unfolding better columns_of
  pareto-idempotent = record { columns = mask-self (columns_of p); same = λ x y. pareto-self (better p x y) (equal p x y) }

-- 3 (m): A↔⊗P ≡ A↔&P, whatever columns the two read.
pub antichain-pareto : (a p : Term) → Antichain a → Equivalent (pair Pareto a p) (pair Prior a p)
unfolding better columns_of
antichain-pareto a p none = record { columns = refl; same = λ x y. rw (none x y) (and_comm (better p x y) (equal a x y)) }

-- ---- a preference with its dual, or with the anti-chain of its columns

module _ (p : Term) (s : sound p ≡ true) (w : within 8 p ≡ true) where
  module _ (a : Term) (none : Antichain a) (over : columns_of a ≡ columns_of p) where
    -- and P♦A↔ ≡ A↔.
    pub both-antichain : Equivalent (pair Both p a) a
    unfolding better columns_of
    both-antichain =
        record {
          columns = rw over (mask-self (columns_of p));
          same = λ x y. rw (none x y) (and-false (better p x y));
        }

    -- 3 (j): P&A↔ ≡ P if P = (A, <P).
    pub prior-antichain : Equivalent (pair Prior p a) p
    unfolding better columns_of
    prior-antichain =
        record {
          columns = rw over (mask-self (columns_of p));
          same = λ x y. rw (none x y, and-false (equal p x y)) (or-false (better p x y));
        }
