-- What the third promise says of Compare's replies ("strictly", SPECIFICATION, "The third promise, word by word"), and
-- that only the term's columns matter to them. Assumes nothing.
-- What a reader or a contract cites stands in specs/Compared.
use Rattle.std.specs.Prelude.{◌≡◌, refl, ◌↔◌, true}
use Rattle.std.proofs.Common.{sym, ◌∙◌, ap}
use Rattle.std.proofs.lemmas.Bool.{false≢true}
use Rattle.model.specs.declared.{Outcome.Outcome}
use Rattle.model.specs.declared.Outcome.TheVariants.{Same, First, Second, Unranked}
use Rattle.model.specs.Term.{Term}
use Rattle.model.specs.Better.{Row, equal, better}
use Rattle.model.specs.Compare.{outcome}
use Rattle.laws.specs.Sound.{sound, within}
use Rattle.laws.specs.Columns.{equal-comm}
use Rattle.laws.proofs.Strict.{transitive, asymmetric}
use Rattle.laws.specs.Outcome.{is_first, turned}
use Rattle.laws.proofs.Outcome.{turned-tests, is-first}

first_of : (o : Outcome) → is_first o ≡ true → o ≡ First
first_of Same h = absurd (false≢true h)
first_of First h = refl
first_of Second h = absurd (false≢true h)
first_of Unranked h = absurd (false≢true h)

module _ (t : Term) (s : sound t ≡ true) (w : within 8 t ≡ true) where
  -- When the rows change places, first better and second better do too; same and unranked don't change.
  pub outcome-turned : (x y : Row) → outcome t y x ≡ turned (outcome t x y)
  unfolding outcome
  outcome-turned x y =
      rw (equal-comm t y x) (turned-tests (equal t x y) (better t y x) (better t x y) (asymmetric t s w y x))

  -- First better is better.
  pub outcome-first : (x y : Row) → (outcome t x y ≡ First) ↔ (better t y x ≡ true)
  outcome-first x y = (
    λ e. is-first t s w x y ∙ ap is_first e,
    λ b. first_of (outcome t x y) (sym (is-first t s w x y) ∙ b),
  )

  -- Where x, y and y, z give first better, so does x, z.
  pub outcome-transitive : (x y z : Row) → outcome t x y ≡ First → outcome t y z ≡ First → outcome t x z ≡ First
  outcome-transitive x y z p q =
      (outcome-first x z).1 (transitive t s w z y x ((outcome-first y z).0 q) ((outcome-first x y).0 p))
