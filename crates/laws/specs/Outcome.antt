-- What a comparison gives (SPECIFICATION, "Compare"), and how a compound's outcome follows from its parts' outcomes.
-- Assumes nothing.
use Rattle.std.specs.Prelude.{◌≡◌, refl, Bool, true, false, cond, ◌&&◌, List, ℕ, ◌<◌}
use Rattle.model.specs.declared.{Value.Value, BaseTerm.BaseTerm, Outcome.Outcome, Pair.Pair}
use Rattle.model.specs.declared.Outcome.TheVariants.{Same, First, Second, Unranked}
use Rattle.model.specs.Bytes.{eq_z}
use Rattle.model.specs.Term.{Term, base}
use Rattle.model.specs.Better.{Row, cell, equal, better_value, better}
use Rattle.model.specs.Compare.{outcome}
use Rattle.laws.specs.Sound.{sound, within}
use Rattle.laws.specs.Columns.{equal-base}
use Rattle.laws.specs.Ties.{joined}

-- ---- from three tests to an outcome and back

-- The outcome of three tests: same, first better, second better.
abbrev pub of_tests : Bool → Bool → Bool → Outcome
of_tests same first second = cond same Same (cond first First (cond second Second Unranked))

-- Which of the tests an outcome says: same,
abbrev pub is_same : Outcome → Bool
is_same Same = true
is_same First = false
is_same Second = false
is_same Unranked = false

-- first better,
abbrev pub is_first : Outcome → Bool
is_first Same = false
is_first First = true
is_first Second = false
is_first Unranked = false

-- or second better.
abbrev pub is_second : Outcome → Bool
is_second Same = false
is_second First = false
is_second Second = true
is_second Unranked = false

-- The two tests do not both pass.
abbrev pub Apart : Bool → Bool → Type 0
Apart a b = a ≡ true → b ≡ true → ⊥

of-same : (e f s : Bool) → e ≡ is_same (of_tests e f s)
of-same true f s = refl
of-same false true s = refl
of-same false false true = refl
of-same false false false = refl

-- Compare's outcome is that of equal and of better both ways.
pub outcome-tests : (t : Term) (x y : Row) → outcome t x y ≡ of_tests (equal t x y) (better t y x) (better t x y)
unfolding outcome
outcome-tests t x y = refl

module _ (t : Term) (s : sound t ≡ true) (w : within 8 t ≡ true) (x y : Row) where
  -- The tests of a sound term can be read off its outcome: equal,
  pub is-same : equal t x y ≡ is_same (outcome t x y)
  unfolding outcome
  is-same = of-same (equal t x y) (better t y x) (better t x y)

-- ---- compounds, by words

-- A compound's outcome from same, first better and second better of its parts.
unfoldable pub joined_outcome : Pair → Outcome → Outcome → Outcome
joined_outcome op a b =
    of_tests (is_same a && is_same b)
    (joined op (is_first a) (is_same a) (is_first b) (is_same b))
    (joined op (is_second a) (is_same a) (is_second b) (is_same b))

-- The rows change places.
abbrev pub turned : Outcome → Outcome
turned Same = Same
turned First = Second
turned Second = First
turned Unranked = Unranked

-- A base term compares the cells of its one column.
pub outcome-base : (column : ℕ) (b : BaseTerm) (values : List Value) → column < 8 → (x y : Row)
    → outcome (base column b values) x y
    ≡ of_tests (eq_z (cell x column) (cell y column))
    (better_value b values (cell y column) (cell x column)) (better_value b values (cell x column) (cell y column))
unfolding outcome better
outcome-base column b values h x y = rw (equal-base column b values h x y)
