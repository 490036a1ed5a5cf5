-- What the code of two values of a base term by their ranks asks for.
use Rattle.std.specs.Prelude.{◌≡◌, Bool, List, ℕ, ℤ}
use Rattle.model.specs.declared.{BaseTerm.BaseTerm}
use Rattle.model.specs.declared.BaseTerm.TheVariants.{Explicit}
use Rattle.terms.specs.Run.{Values}
use Rattle.terms.specs.Prepared.{ReachedFrom}
use Rattle.ranks.specs.Rank.{RankAt}

-- Term b of record k with its values, the records from k + 1 to before e, and two values with their ranks.
pub record TwoRanked (table : List ℕ) (reach : List (List Bool)) (k e : ℕ) (b : BaseTerm) (v w x y : ℤ) : Type 0 where
  pub values : Values table k e
  pub reached : b ≡ Explicit → ReachedFrom table k e reach
  pub first : RankAt table k e b v x
  pub second : RankAt table k e b w y
