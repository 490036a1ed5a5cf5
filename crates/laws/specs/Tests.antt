-- Tests of signed numbers as codes, with no branch. Assumes nothing.
use Rattle.std.specs.Prelude.{◌≡◌, refl, Bool, true, false, not, ℕ, ◌+◌, ◌*◌, ◌≤◌, leb, ltb, ℤ, pos, negsuc}
use Rattle.std.proofs.Common.{⊎_elim, arith, lit≤, ltb-true, ltb-false, le-leb}
use Rattle.std.specs.Int.Signed.{lt_z, le_z}
use mir.Val.{bool_byte}
use Rattle.std.proofs.lemmas.Bool.{lt-leb}
use Rattle.laws.specs.Bools.{on-or-off, lt_z-irrefl, lt_z-trans}
use Rattle.laws.specs.ValueCodes.{tests_code}

-- A test as a number is at most 1,
pub byte_small : (b : Bool) → bool_byte b ≤ 1
byte_small true = lit≤ tt
byte_small false = lit≤ tt

-- and a factor that never enlarges.
pub byte-factor : (b : Bool) (n : ℕ) → bool_byte b * n ≤ n
byte-factor true n = omega arith
byte-factor false n = omega arith

-- ---- order, and the code of ranks as a sum

-- At most is: not above.
le-nat : (a b : ℕ) → leb a b ≡ not (ltb b a)
le-nat a b =
    ⊎_elim
    (λ e. rw e (lt-leb a b (ltb-true b a e)))
    (λ e. rw e (le-leb a b (ltb-false b a e)))
    (on-or-off (ltb b a))

le_not : (x y : ℤ) → le_z x y ≡ not (lt_z y x)
le_not (pos a) (pos b) = le-nat a b
le_not (pos a) (negsuc b) = refl
le_not (negsuc a) (pos b) = refl
le_not (negsuc a) (negsuc b) = le-nat b a

-- Not both below.
pub one_way : (x y : ℤ) → lt_z x y ≡ true → lt_z y x ≡ true → ⊥
one_way x y p q = lt_z-irrefl x (lt_z-trans x y x p q)

ranked-tests : (e p q : Bool) → (p ≡ true → q ≡ true → ⊥)
    → bool_byte (not e) * (bool_byte (not q) + 2 * bool_byte (not p)) ≡ tests_code e p q
unfolding tests_code
ranked-tests e true true h = absurd (h refl refl)
ranked-tests true true false h = refl
ranked-tests true false true h = refl
ranked-tests true false false h = refl
ranked-tests false true false h = refl
ranked-tests false false true h = refl
ranked-tests false false false h = refl

pub ranked-sum : (e : Bool) (x y : ℤ)
    → bool_byte (not e) * (bool_byte (le_z x y) + 2 * bool_byte (le_z y x)) ≡ tests_code e (lt_z x y) (lt_z y x)
ranked-sum e x y = rw (le_not x y, le_not y x) (ranked-tests e (lt_z x y) (lt_z y x) (one_way x y))
