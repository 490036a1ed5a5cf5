-- `model::cases::perfect_cases`: each table passes and decodes to its term by computing, and the term has its mark.
-- Assumes nothing.
use mathlib.Core.Path.{◌≡◌, ◌∙◌, refl}
use mathlib.Core.Bool.{true, false}
use mathlib.Core.List.{[], ◌∷◌}
use lib.IntN.{pos}
use Rattle.model.specs.Words.{Mark, Any, Lowest, Pareto}
use Rattle.model.specs.Term.{Term, base, pair, dual}
use Rattle.model.specs.Perfect.{perfect, perfect_reply}
use Rattle.model.specs.cases.Opened.{opened}
use Rattle.model.specs.cases.Case.{AllGiven, marked, from_perfect}
use Rattle.model.specs.cases.Tables.{lowest}
use Rattle.model.specs.cases.Marks.{perfects, turned_twice, with_any}
use Rattle.model.proofs.Marks.{reply, likes_five, best, beaten, worst, bettered, twice, anything, together, lower}
use Rattle.model.proofs.cases.perfect_cases.Statement.{statement}
use Rattle.model.proofs.cases.perfect_cases.Tie as tie

-- PARETO of POS {5} in column 0 and ANY in column 1.
abbrev joined : Term
joined = pair Pareto likes_five (base 1 Any [])

joined-best : perfect false joined (pos 5 ∷ pos 9 ∷ []) ≡ true
joined-best = rw (together likes_five (base 1 Any []) (pos 5 ∷ pos 9 ∷ []), best (pos 9 ∷ []), anything 1 (pos 5 ∷ pos 9 ∷ []))

joined-beaten : perfect false joined (pos 6 ∷ pos 5 ∷ []) ≡ false
joined-beaten = rw (together likes_five (base 1 Any []) (pos 6 ∷ pos 5 ∷ []), beaten (pos 5 ∷ []))

-- Each case in turn.
one : from_perfect (perfect_reply turned_twice 1 0 (pos 5 ∷ [])) ≡ marked Mark.Yes
unfolding opened
one = reply turned_twice 1 0 (pos 5 ∷ []) likes_five refl refl (best [])

two : from_perfect (perfect_reply turned_twice 1 0 (pos 6 ∷ [])) ≡ marked Mark.No
unfolding opened
two = reply turned_twice 1 0 (pos 6 ∷ []) likes_five refl refl (beaten [])

three : from_perfect (perfect_reply turned_twice 1 2 (pos 6 ∷ [])) ≡ marked Mark.Yes
unfolding opened
three = reply turned_twice 1 2 (pos 6 ∷ []) (dual likes_five) refl refl worst

four : from_perfect (perfect_reply turned_twice 1 2 (pos 5 ∷ [])) ≡ marked Mark.No
unfolding opened
four = reply turned_twice 1 2 (pos 5 ∷ []) (dual likes_five) refl refl bettered

five : from_perfect (perfect_reply turned_twice 1 3 (pos 5 ∷ [])) ≡ marked Mark.Yes
unfolding opened
five = reply turned_twice 1 3 (pos 5 ∷ []) (dual (dual likes_five)) refl refl (twice (pos 5 ∷ []) ∙ best [])

six : from_perfect (perfect_reply turned_twice 1 3 (pos 6 ∷ [])) ≡ marked Mark.No
unfolding opened
six = reply turned_twice 1 3 (pos 6 ∷ []) (dual (dual likes_five)) refl refl (twice (pos 6 ∷ []) ∙ beaten [])

seven : from_perfect (perfect_reply with_any 2 2 (pos 9 ∷ pos 9 ∷ [])) ≡ marked Mark.Yes
unfolding opened
seven = reply with_any 2 2 (pos 9 ∷ pos 9 ∷ []) (base 1 Any []) refl refl (anything 1 (pos 9 ∷ pos 9 ∷ []))

eight : from_perfect (perfect_reply with_any 2 3 (pos 5 ∷ pos 9 ∷ [])) ≡ marked Mark.Yes
unfolding opened
eight = reply with_any 2 3 (pos 5 ∷ pos 9 ∷ []) joined refl refl joined-best

nine : from_perfect (perfect_reply with_any 2 3 (pos 6 ∷ pos 5 ∷ [])) ≡ marked Mark.No
unfolding opened
nine = reply with_any 2 3 (pos 6 ∷ pos 5 ∷ []) joined refl refl joined-beaten

ten : from_perfect (perfect_reply (lowest 0) 1 0 (pos 0 ∷ [])) ≡ marked Mark.No
unfolding opened
ten = reply (lowest 0) 1 0 (pos 0 ∷ []) (base 0 Lowest []) refl refl lower

all-given : AllGiven perfects
unfolding perfects
all-given = rw (one, two, three, four, five, six, seven, eight, nine, ten)

pub perfect_cases_spec : {M : Type 1} → statement M
perfect_cases_spec = tie.close (tie.spec (λ c. all-given))
