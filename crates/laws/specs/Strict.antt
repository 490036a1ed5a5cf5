-- Better is a strict order for every sound term (the third promise: "strictly"), and respects the ties that compounds
-- read. Assumes nothing.
use Rattle.std.specs.Prelude.{◌≡◌, refl, Bool, true, false, ◌&&◌}
use Rattle.model.specs.declared.{Pair.Pair}
use Rattle.model.specs.declared.Pair.TheVariants.{Pareto, Prior, Both}
use Rattle.model.specs.Term.{Term}
use Rattle.model.specs.Better.{better}
use Rattle.laws.specs.Order.{Rel, Strict, Tie, strict-ext}
use Rattle.laws.specs.Joins.{prior, meet, prior-strict, meet-strict}
use Rattle.laws.specs.Ties.{joined, tied}

-- ---- compounds

-- PARETO is "better under both placings", whatever the four tests are.
pub pareto-placings : (bl el br er : Bool)
    → joined Pareto bl el br er ≡ (joined Prior bl el br er && joined Prior br er bl el)
unfolding joined
pareto-placings true el true er = refl
pareto-placings true el false true = refl
pareto-placings true el false false = refl
pareto-placings false true true er = refl
pareto-placings false false true er = refl
pareto-placings false true false er = refl
pareto-placings false false false er = refl

-- A compound of four relations.
abbrev pub compound : {A : Type 0} → Pair → Rel A → Rel A → Rel A → Rel A → Rel A
compound op bl el br er x y = joined op (bl x y) (el x y) (br x y) (er x y)

module _ {A : Type 0} (bl el br er : Rel A) where
  -- Two strict orders with their ties join to a strict order.
  pub compound-strict : (op : Pair) → Strict bl → Tie bl el → Strict br → Tie br er → Strict (compound op bl el br er)
  unfolding joined
  compound-strict Pareto sl tl sr tr =
      strict-ext (meet (prior bl el br) (prior br er bl)) (compound Pareto bl el br er)
      (λ x y. pareto-placings (bl x y) (el x y) (br x y) (er x y))
      (meet-strict (prior bl el br) (prior br er bl) (prior-strict bl el br sl tl sr) (prior-strict br er bl sr tr sl))
  compound-strict Prior sl tl sr tr = prior-strict bl el br sl tl sr
  compound-strict Both sl tl sr tr = meet-strict bl br sl sr

-- ---- terms

-- What is claimed of a term.
pub record Ordered (t : Term) : Type 0 where
  pub strict : Strict (better t)
  pub ties : (op : Pair) → Tie (better t) (tied op t)
