-- The line of a refusal and that of an answer as the code puts them, one field after another. Assumes nothing.
use Prim.Native.Nat.{ℕ}
use mathlib.Core.Path.{◌≡◌}
use mathlib.Core.List.{List, [], ◌∷◌, ◌++◌, append_assoc}
use Rattle.std.specs.Prelude.{Option}
use Rattle.model.specs.declared.{Refusal.Refusal, Summary.Summary}
use Rattle.model.specs.Replies.{listed}
use Rattle.model.specs.Pick.{text, decimal, line, place_text, refused_text, ok_text}

-- The line of a refusal.
two_fields : (word a b : List ℕ) → line word (a ∷ b ∷ []) ≡ ((((word ++ (32 ∷ [])) ++ a) ++ (32 ∷ [])) ++ b) ++ (10 ∷ [])
unfolding line
two_fields word a b = simp append_assoc

pub refused : {n : ℕ} {place : Option ℕ} (why : Refusal) → n ≡ (listed why).number → place ≡ (listed why).place → refused_text why ≡
    ((((114 ∷ 101 ∷ 102 ∷ 117 ∷ 115 ∷ 101 ∷ 100 ∷ 32 ∷ []) ++ decimal n) ++ (32 ∷ [])) ++ place_text place) ++ (10 ∷ [])
unfolding refused_text text
refused why d e = rw (d, e) (two_fields (text "refused") (decimal (listed why).number) (place_text (listed why).place))

-- The line of an answer.
pub head : (s : Summary) (total : ℕ) → ok_text s total ≡
    ((((((111 ∷ 107 ∷ 32 ∷ []) ++ decimal s.records) ++ (32 ∷ [])) ++ decimal s.count) ++ (32 ∷ [])) ++ decimal total)
    ++ (10 ∷ [])
unfolding ok_text line text
head s total = simp append_assoc
