-- The report's decompositions (section 4.2), as theorems about `better`: Proposition 4, "discrimination" of
-- PRIOR; Proposition 5, "non-discrimination" of PARETO; Proposition 6. Assumes nothing.
-- What a reader or a contract cites stands in specs/Decomposition.
use Rattle.std.specs.Prelude.{◌≡◌, refl, true}
use Rattle.std.proofs.Common.{sym, ◌∙◌}
use Rattle.std.proofs.Math.Bool.{or-false}
use Rattle.std.specs.Int.Bits.{bit_or, or_self as mask-self}
use Rattle.std.proofs.lemmas.Nat.{or_comm as mask-comm}
use Rattle.model.specs.declared.Pair.TheVariants.{Pareto, Prior, Both}
use Rattle.model.specs.Term.{Term, pair, columns_of}
use Rattle.model.specs.Better.{Row, equal, better}
use Rattle.laws.specs.Columns.{equal-columns}
use Rattle.laws.specs.Sound.{sound, within}
use Rattle.laws.specs.Equivalence.{Equivalent}
use Rattle.laws.proofs.Report.{equal-none}
use Rattle.laws.specs.Ties.{joined}
use Rattle.laws.specs.Strict.{pareto-placings}

-- ---- PRIOR

-- 4 (a): P1&P2 ≡ P1 if P1 = (A, <P1) and P2 = (A, <P2).
pub prior-shared : (p1 p2 : Term) → columns_of p1 ≡ columns_of p2 → sound p2 ≡ true → within 8 p2 ≡ true
    → Equivalent (pair Prior p1 p2) p1
unfolding better columns_of
prior-shared p1 p2 over s w =
    record {
      columns = rw (← over) (mask-self (columns_of p1));
      same = λ x y. rw (equal-columns p1 p2 over x y, equal-none p2 s w x y) (or-false (better p1 x y));
    }

-- ---- PARETO

both-parts : (l r l' r' : Term) (x y : Row) → better l x y ≡ better l' x y → better r x y ≡ better r' x y
    → better (pair Both l r) x y ≡ better (pair Both l' r') x y
unfolding better
both-parts l r l' r' x y e f = rw (e, f)

module _ (p1 p2 : Term) where
  -- 5: P1⊗P2 ≡ (P1&P2)♦(P2&P1).
  pub pareto-both-placings : Equivalent (pair Pareto p1 p2) (pair Both (pair Prior p1 p2) (pair Prior p2 p1))
  unfolding better columns_of joined
  pareto-both-placings =
      record {
        columns = rw (mask-comm (columns_of p2) (columns_of p1)) (sym (mask-self (bit_or (columns_of p1) (columns_of p2))));
        same = λ x y. pareto-placings (better p1 x y) (equal p1 x y) (better p2 x y) (equal p2 x y);
      }

  -- 6: P1⊗P2 ≡ P1♦P2 if P1 = (A, <P1) and P2 = (A, <P2), from 5 and 4 (a).
  pub pareto-shared : columns_of p1 ≡ columns_of p2 → sound p1 ≡ true → within 8 p1 ≡ true → sound p2 ≡ true
      → within 8 p2 ≡ true → Equivalent (pair Pareto p1 p2) (pair Both p1 p2)
  unfolding columns_of
  pareto-shared over s1 w1 s2 w2 =
      record {
        columns = refl;
        same = λ x y.
            pareto-both-placings.same x y
            ∙ both-parts (pair Prior p1 p2) (pair Prior p2 p1) p1 p2 x y
            ((prior-shared p1 p2 over s2 w2).same x y) ((prior-shared p2 p1 (sym over) s1 w1).same x y);
      }
