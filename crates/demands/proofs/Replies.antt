-- What Compare replies strictly, and as numbers. Assumes nothing.
use mathlib.Core.Path.{◌≡◌, refl, sym, ◌∙◌}
use mathlib.Core.Bool.{Bool, true, false, not, ◌&&◌, ◌||◌}
use mathlib.Core.List.{List}
use Prim.Native.Nat.{ℕ}
use lib.Dec.{ltb}
use lib.ListN.{length}
use Rattle.std.specs.Prelude.{Ok}
use Rattle.model.specs.declared.Outcome.{Outcome}
use Rattle.model.specs.declared.Outcome.TheVariants.{Same, First, Second, Unranked}
use Rattle.model.specs.Term.{term_at}
use Rattle.model.specs.Better.{Row}
use Rattle.model.specs.Compare.{outcome, compare_reply}
use Rattle.laws.specs.Bools.{and_l, and_r}
use Rattle.laws.proofs.Strict.{transitive}
use Rattle.laws.specs.Outcome.{is_first, turned}
use Rattle.laws.proofs.Outcome.{is-first}
use Rattle.laws.proofs.Compared.{outcome-turned}
use Rattle.laws.proofs.Taken.{taken-sound}
use Rattle.laws.proofs.Replied.{compared-reply, reply-self}
use Rattle.theorems.specs.Strictly.{TermRecord}
use Rattle.demands.specs.Given.{number_given, gives_same, gives_turned, gives_chained}
use Rattle.demands.proofs.Numbered.{is_one}
use Rattle.theorems.specs.Ordered.{taken}

turned-numbers : (o : Outcome)
    → gives_turned (Ok o) (Ok (turned o)) ≡ true
unfolding gives_turned
turned-numbers Same = refl
turned-numbers First = refl
turned-numbers Second = refl
turned-numbers Unranked = refl

below-four : (o : Outcome) → ltb (number_given (Ok o)) 4 ≡ true
below-four Same = refl
below-four First = refl
below-four Second = refl
below-four Unranked = refl

if-then : (p q : Bool) → (p ≡ true → q ≡ true) → (not p || q) ≡ true
if-then true q f = f refl
if-then false q f = refl

module _ (table : List ℕ) (columns term : ℕ) (t : TermRecord table columns term) (x y z : Row)
    (fx : length x ≡ columns) (fy : length y ≡ columns) (fz : length z ≡ columns) where
  given : (x y : Row) → length x ≡ columns → length y ≡ columns
      → compare_reply table columns term x y ≡ Ok (outcome (term_at table term) x y)
  given = compared-reply table columns term (taken table columns term t)

  -- A row against itself gives same;
  pub same-passes : gives_same (compare_reply table columns term x x) ≡ true
  unfolding gives_same
  same-passes = rw (reply-self table columns term (taken table columns term t) x fx)

  -- the replies to rows that change places correspond;
  pub turned-passes : gives_turned (compare_reply table columns term x y) (compare_reply table columns term y x) ≡ true
  turned-passes =
      let k = taken table columns term t in
      let s = taken-sound table columns term k in
      rw (given x y fx fy, given y x fy fx, outcome-turned (term_at table term) s.0 s.1 x y)
      (turned-numbers (outcome (term_at table term) x y))

  firsts : is_first (outcome (term_at table term) x y) ≡ true → is_first (outcome (term_at table term) y z) ≡ true
      → is_first (outcome (term_at table term) x z) ≡ true
  firsts h k =
      let u = term_at table term in
      let s = taken-sound table columns term (taken table columns term t) in
      sym (is-first u s.0 s.1 x z)
      ∙ transitive u s.0 s.1 z y x (is-first u s.0 s.1 y z ∙ k) (is-first u s.0 s.1 x y ∙ h)

  -- and two replies of first better chain.
  pub chained-passes
      : gives_chained (compare_reply table columns term x y) (compare_reply table columns term y z)
      (compare_reply table columns term x z)
      ≡ true
  unfolding gives_chained
  chained-passes =
      let o = outcome (term_at table term) in
      rw (
        given x y fx fy,
        given y z fy fz,
        given x z fx fz,
        below-four (o x y),
        below-four (o y z),
        below-four (o x z),
        is_one (o x y),
        is_one (o y z),
        is_one (o x z),
      )
      (if-then (is_first (o x y) && is_first (o y z)) (is_first (o x z))
      (λ h. firsts (and_l _ (is_first (o y z)) h) (and_r (is_first (o x y)) _ h)))
