-- The perfect marks of a few terms: a value that is better or worse is named, or none is by the term's definition.
-- Assumes nothing.
use mathlib.Core.Path.{◌≡◌, refl, ap}
use mathlib.Core.Logic.{◌⊎◌, inl, inr, ⊎_elim}
use mathlib.Core.Bool.{Bool, true, false, not, ◌&&◌, ◌||◌, and-false}
use mathlib.Core.List.{List, [], ◌∷◌}
use Prim.Native.Nat.{ℕ, zero, suc, ◌<◌}
use native.Mathlib.Omega.{arith}
use lib.Dec.{ltb}
use lib.IntN.{pos}
use borrow.Author.Tests.{ltb-true, ltb-false}
use Rattle.std.specs.Prelude.{Ok}
use Rattle.model.specs.Words.{Value, Pos, Any, Lowest, Pareto}
use Rattle.model.specs.Search.{any_below, any_in}
use Rattle.model.specs.Bytes.{signed, eq_z}
use Rattle.model.specs.Term.{Term, term_at, base, pair, dual}
use Rattle.model.specs.Better.{Row, cell, in_role, favourite, better_value}
use Rattle.model.specs.Compare.{fails_row, term_verdict}
use Rattle.model.specs.Perfect.{some_value, perfect, perfect_reply, mark_of}
use Rattle.model.specs.cases.Case.{marked, from_perfect}

none : (n : ℕ) (test : ℕ → Bool) → ((k : ℕ) → test k ≡ false) → any_below n test ≡ false
unfolding any_below
none zero test h = refl
none (suc n) test h = rw (none n test h, h n)

or_r : (a : Bool) {b : Bool} → b ≡ true → (a || b) ≡ true
or_r true p = refl
or_r false p = p

on-or-off : (b : Bool) → (b ≡ true) ⊎ (b ≡ false)
on-or-off true = inl refl
on-or-off false = inr refl

lt-suc-cases : (j n : ℕ) → j < suc n → (j < n) ⊎ (j ≡ n)
lt-suc-cases j n h = ⊎_elim (λ t. inl (omega (arith, ltb-true))) (λ t. inr (omega (arith, ltb-false))) (on-or-off (ltb j n))

found : (n : ℕ) (test : ℕ → Bool) (k : ℕ) → k < n → test k ≡ true → any_below n test ≡ true
unfolding any_below
found zero test k h e = absurd (omega arith)
found (suc n) test k h e = ⊎_elim (λ l. rw (found n test k l e)) (λ l. or_r (any_below n test) (rw (← l) e)) (lt-suc-cases k n h)

-- Perfect gives the mark of the term that the table's record decodes to.
pub reply : (table : List ℕ) (columns term : ℕ) (row : Row) (t : Term) {b : Bool} → term_verdict table columns (fails_row columns row) term ≡ Ok tt → term_at table term ≡ t → perfect false t row ≡ b → from_perfect (perfect_reply table columns term row) ≡ marked (mark_of b)
unfolding perfect_reply
reply table columns term row t v e m = rw (v, e, m)

-- POS with favourite 5, in column 0.
abbrev five : List Value
five = record { role = 1; u = pos 5; v = pos 0 } ∷ []

abbrev pub likes_five : Term
likes_five = base 0 Pos five

-- No value is better than 5; 5 is better than 6 and 9.
pub best : (rest : Row) → perfect false likes_five (pos 5 ∷ rest) ≡ true
unfolding perfect some_value better_value favourite in_role any_in cell eq_z
best rest = ap not (none 4294967296 (λ k. false) (λ k. refl))

pub beaten : (rest : Row) → perfect false likes_five (pos 6 ∷ rest) ≡ false
unfolding perfect some_value better_value favourite in_role any_in cell eq_z signed
beaten rest = ap not (found 4294967296 (λ word. better_value Pos five (pos 6) (signed word)) 5 (omega arith) refl)

-- Beneath a DUAL: none is worse than 6; 0 is worse than 5. Beneath two DUALs as beneath none.
pub worst : perfect false (dual likes_five) (pos 6 ∷ []) ≡ true
unfolding perfect some_value better_value favourite in_role any_in cell eq_z
worst =
    ap not (none 4294967296 (λ word. better_value Pos five (signed word) (pos 6)) (λ word. and-false (not (favourite five (signed word)))))

pub bettered : perfect false (dual likes_five) (pos 5 ∷ []) ≡ false
unfolding perfect some_value better_value favourite in_role any_in cell eq_z signed
bettered = ap not (found 4294967296 (λ word. better_value Pos five (signed word) (pos 5)) 0 (omega arith) refl)

pub twice : (row : Row) → perfect false (dual (dual likes_five)) row ≡ perfect false likes_five row
unfolding perfect
twice row = refl

-- Under ANY nothing is better. Two terms are perfect together.
pub anything : (column : ℕ) (row : Row) → perfect false (base column Any []) row ≡ true
unfolding perfect some_value better_value
anything column row = ap not (none 4294967296 (λ k. false) (λ k. refl))

pub together : (l r : Term) (row : Row) → perfect false (pair Pareto l r) row ≡ (perfect false l row && perfect false r row)
unfolding perfect
together l r row = refl

-- Under LOWEST the last word, -1, is better than 0.
pub lower : perfect false (base 0 Lowest []) (pos 0 ∷ []) ≡ false
unfolding perfect some_value better_value cell signed
lower = ap not (found 4294967296 (λ word. better_value Lowest [] (pos 0) (signed word)) 4294967295 (omega arith) refl)
