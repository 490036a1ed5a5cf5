-- The number of first better is 1. Assumes nothing.
use mathlib.Core.Path.{◌≡◌, refl}
use lib.Dec.{eqb}
use Rattle.std.specs.Prelude.{Ok}
use Rattle.model.specs.declared.Outcome.{Outcome}
use Rattle.model.specs.declared.Outcome.TheVariants.{Same, First, Second, Unranked}
use Rattle.laws.specs.Outcome.{is_first}
use Rattle.demands.specs.Given.{number_given}

pub is_one : (o : Outcome) → eqb (number_given (Ok o)) 1 ≡ is_first o
is_one Same = refl
is_one First = refl
is_one Second = refl
is_one Unranked = refl
