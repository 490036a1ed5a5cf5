-- The report's Proposition 3, further laws for preference terms (section 4.1), as theorems about `better`.
-- A↔ is any term over the columns A under which nothing is better. Assumes nothing.
-- Left out, since the specification has no linear sum: 3 (c). The text that we hold shows no 3 (h).
-- What a reader or a contract cites stands in specs/Report.
use Rattle.std.specs.Prelude.{◌≡◌, Bool, ◌&&◌, ◌||◌}
use Rattle.std.proofs.Math.Path.{refl, sym}
use Rattle.std.proofs.Common.{◌∙◌, true≢false}
use Rattle.std.proofs.Math.Bool.{true, false, or-false, and_comm}
use Rattle.std.specs.Int.Bits.{bit_or, or_self as mask-self}
use Rattle.model.specs.declared.Pair.TheVariants.{Pareto, Prior, Both}
use Rattle.model.specs.Term.{Term, pair, dual, columns_of}
use Rattle.model.specs.Better.{Row, equal, better}
use Rattle.laws.specs.Bools.{and_l, and_r, off}
use Rattle.laws.specs.Columns.{equal-dual, equal-columns, equal-comm}
use Rattle.laws.specs.Sound.{sound, within}
use Rattle.laws.specs.Equivalence.{Equivalent, Antichain}
use Rattle.laws.proofs.Strict.{asymmetric, equal-unranked}

-- ---- a preference with its dual, or with the anti-chain of its columns

module _ (p : Term) (s : sound p ≡ true) (w : within 8 p ≡ true) where
  no-cycle : (x y : Row) → (better p x y && better p y x) ≡ false
  no-cycle x y =
      off (better p x y && better p y x)
      (λ h. asymmetric p s w x y (and_l _ (better p y x) h) (and_r (better p x y) _ h))

  -- Rows that are equal in p's columns are not better, in either order.
  pub equal-none : (x y : Row) → (equal p x y && better p x y) ≡ false
  equal-none x y =
      off (equal p x y && better p x y)
      (λ h. equal-unranked p s w x y (and_l _ (better p x y) h) (and_r (equal p x y) _ h))

  equal-none-turned : (x y : Row) → (equal p x y && better p y x) ≡ false
  equal-none-turned x y = rw (equal-comm p x y) (equal-none y x)

  -- 3 (i): P&P∂ ≡ P.
  pub prior-dual : Equivalent (pair Prior p (dual p)) p
  unfolding better columns_of
  prior-dual =
      record {
        columns = mask-self (columns_of p);
        same = λ x y. rw (equal-none-turned x y) (or-false (better p x y));
      }

  module _ (a : Term) (none : Antichain a) (over : columns_of a ≡ columns_of p) where
    together : bit_or (columns_of p) (columns_of p) ≡ columns_of a
    together = mask-self (columns_of p) ∙ sym over

    -- 3 (g): P♦P∂ ≡ A↔ if P = (A, <P),
    pub both-dual : Equivalent (pair Both p (dual p)) a
    unfolding better columns_of
    both-dual = record { columns = together; same = λ x y. no-cycle x y ∙ sym (none x y) }

    -- 3 (k): A↔&P ≡ A↔ if P = (A, <P).
    pub antichain-prior : Equivalent (pair Prior a p) a
    unfolding better columns_of
    antichain-prior =
        record {
          columns = rw over (mask-self (columns_of p));
          same = λ x y. rw (none x y, equal-columns a p over x y) (equal-none x y);
        }

    -- 3 (n): P⊗A↔ ≡ A↔ if P = (A, <P),
    pub pareto-antichain : Equivalent (pair Pareto p a) a
    unfolding better columns_of
    pareto-antichain =
        record {
          columns = rw over (mask-self (columns_of p));
          same = λ x y. rw (none x y, equal-columns a p over x y, or-false (better p x y && equal p x y))
              (and_comm (better p x y) (equal p x y) ∙ equal-none x y);
        }

    -- and P⊗P∂ ≡ A↔.
    pub pareto-dual : Equivalent (pair Pareto p (dual p)) a
    unfolding better columns_of
    pareto-dual =
        record {
          columns = together;
          same = λ x y. rw (none x y, equal-dual p x y)
              (apart (better p x y) (better p y x) (equal p x y) (no-cycle x y) (equal-none x y) (equal-none-turned x y));
        }
      where
        apart : (b c e : Bool) → (b && c) ≡ false → (e && b) ≡ false → (e && c) ≡ false
            → (b && (c || e) || c && (b || e)) ≡ false
        apart true c true p q r = absurd (true≢false q)
        apart true c false p q r = rw p
        apart false true true p q r = r
        apart false true false p q r = refl
        apart false false e p q r = refl
