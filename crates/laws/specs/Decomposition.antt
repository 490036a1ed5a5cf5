-- The report's decompositions (section 4.2), as theorems about `better`: Proposition 4, "discrimination" of
-- PRIOR; Proposition 5, "non-discrimination" of PARETO; Proposition 6. Assumes nothing.
use Rattle.std.specs.Prelude.{◌≡◌, true, ◌||◌}
use Rattle.std.proofs.Common.{eq-eqb}
use Rattle.std.specs.Int.Bits.{bit_or}
use Rattle.std.proofs.lemmas.Nat.{or_comm as mask-comm}
use Rattle.model.specs.declared.Pair.TheVariants.{Prior, Both}
use Rattle.model.specs.Term.{Term, pair, columns_of}
use Rattle.model.specs.Better.{Row, better}
use Rattle.laws.specs.Bools.{and_i}
use Rattle.laws.specs.Columns.{equal-columns}
use Rattle.laws.specs.Sound.{sound, fits, sound-prior}
use Rattle.laws.specs.Equivalence.{Antichain}

-- 4 (b): P1&P2 ≡ P1 + (A1↔&P2). The specification decides here: the report's + is the disjoint union, and the two
-- relations can share values, so this is their plain union, for whatever columns P1 and P2 read.
pub prior-union : (p1 p2 a : Term) → Antichain a → columns_of a ≡ columns_of p1 → (x y : Row)
    → better (pair Prior p1 p2) x y ≡ (better p1 x y || better (pair Prior a p2) x y)
unfolding better
prior-union p1 p2 a none over x y = rw (none x y, equal-columns a p1 over x y)

module _ (p1 p2 : Term) where
  -- The right side is a sound term where P1 and P2 are: the two placings read the same columns.
  pub placings-sound : sound p1 ≡ true → sound p2 ≡ true → sound (pair Both (pair Prior p1 p2) (pair Prior p2 p1)) ≡ true
  unfolding sound fits columns_of
  placings-sound s1 s2 =
      and_i
      (eq-eqb (bit_or (columns_of p1) (columns_of p2)) (bit_or (columns_of p2) (columns_of p1))
      (mask-comm (columns_of p1) (columns_of p2)))
      (and_i (sound-prior p1 p2 s1 s2) (sound-prior p2 p1 s2 s1))
