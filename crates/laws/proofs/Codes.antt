-- Outcomes as codes (SPECIFICATION, "Compare"): same 0, first better 1, second better 2, unranked 3. PARETO's code is
-- the bitwise or of its parts' codes, BOTH's too, PRIOR's is the left's unless that is 0, and DUAL changes 1 and 2.
-- Assumes nothing.
-- What a reader or a contract cites stands in specs/Codes.
use Rattle.std.specs.Prelude.{◌≡◌, refl, true, cond}
use Rattle.std.proofs.Common.{◌∙◌, ap}
use Rattle.std.specs.Int.Bits.{bit_or}
use Rattle.model.specs.declared.{Outcome.Outcome, Pair.Pair}
use Rattle.model.specs.declared.Outcome.TheVariants.{Same, First, Second, Unranked}
use Rattle.model.specs.declared.Pair.TheVariants.{Pareto, Prior, Both}
use Rattle.model.specs.Term.{Term, pair, dual}
use Rattle.model.specs.Better.{Row}
use Rattle.model.specs.Compare.{outcome}
use Rattle.laws.specs.Sound.{sound, within, sound-left, sound-right, sound-fits, sound-pareto}
use Rattle.laws.specs.Columns.{equal-pair, within-left, within-right}
use Rattle.laws.specs.Ties.{joined}
use Rattle.laws.proofs.Decomposition.{pareto-shared}
use Rattle.laws.specs.Outcome.{is_same, turned, joined_outcome}
use Rattle.laws.proofs.Outcome.{outcome-pair, outcome-dual}
use Rattle.laws.specs.Codes.{code_of, prior_code, turned_code, code, joined_code}

pareto-joined : (a b : Outcome) → code_of (joined_outcome Pareto a b) ≡ bit_or (code_of a) (code_of b)
unfolding joined_outcome joined
pareto-joined Same Same = refl
pareto-joined Same First = refl
pareto-joined Same Second = refl
pareto-joined Same Unranked = refl
pareto-joined First Same = refl
pareto-joined First First = refl
pareto-joined First Second = refl
pareto-joined First Unranked = refl
pareto-joined Second Same = refl
pareto-joined Second First = refl
pareto-joined Second Second = refl
pareto-joined Second Unranked = refl
pareto-joined Unranked Same = refl
pareto-joined Unranked First = refl
pareto-joined Unranked Second = refl
pareto-joined Unranked Unranked = refl

prior-joined : (a b : Outcome) → joined_outcome Prior a b ≡ cond (is_same a) b a
unfolding joined_outcome joined
prior-joined Same Same = refl
prior-joined Same First = refl
prior-joined Same Second = refl
prior-joined Same Unranked = refl
prior-joined First b = refl
prior-joined Second b = refl
prior-joined Unranked b = refl

prior-coded : (a b : Outcome) → code_of (cond (is_same a) b a) ≡ prior_code (code_of a) (code_of b)
unfolding prior_code
prior-coded Same b = refl
prior-coded First b = refl
prior-coded Second b = refl
prior-coded Unranked b = refl

turned-coded : (o : Outcome) → code_of (turned o) ≡ turned_code (code_of o)
unfolding turned_code
turned-coded Same = refl
turned-coded First = refl
turned-coded Second = refl
turned-coded Unranked = refl

-- BOTH, whose parts read the same columns, gives what PARETO gives.
pub both-outcome : (l r : Term) → sound (pair Both l r) ≡ true → within 8 (pair Both l r) ≡ true → (x y : Row)
    → outcome (pair Both l r) x y ≡ outcome (pair Pareto l r) x y
unfolding outcome
both-outcome l r s w x y =
    let alike = pareto-shared l r (sound-fits l r s)
    (sound-left Both l r s) (within-left 8 Both l r w) (sound-right Both l r s) (within-right 8 Both l r w) in
    rw (equal-pair Both l r x y, ← (equal-pair Pareto l r x y), ← (alike.same x y), ← (alike.same y x))

-- PRIOR gives what the left gives unless that is same, then what the right gives.
pub prior-outcome : (l r : Term) → sound (pair Prior l r) ≡ true → within 8 (pair Prior l r) ≡ true → (x y : Row)
    → outcome (pair Prior l r) x y ≡ cond (is_same (outcome l x y)) (outcome r x y) (outcome l x y)
prior-outcome l r s w x y = outcome-pair Prior l r s w x y ∙ prior-joined (outcome l x y) (outcome r x y)

-- PARETO: the bitwise or of the parts' codes.
pub pareto-code : (l r : Term) → sound (pair Pareto l r) ≡ true → within 8 (pair Pareto l r) ≡ true → (x y : Row)
    → code (pair Pareto l r) x y ≡ bit_or (code l x y) (code r x y)
pareto-code l r s w x y = ap code_of (outcome-pair Pareto l r s w x y) ∙ pareto-joined (outcome l x y) (outcome r x y)

-- BOTH: the same.
pub both_code : (l r : Term) → sound (pair Both l r) ≡ true → within 8 (pair Both l r) ≡ true → (x y : Row)
    → code (pair Both l r) x y ≡ bit_or (code l x y) (code r x y)
unfolding within
both_code l r s w x y =
    ap code_of (both-outcome l r s w x y)
    ∙ pareto-code l r (sound-pareto l r (sound-left Both l r s) (sound-right Both l r s)) w x y

-- PRIOR: the left's unless it is 0, then the right's.
pub prior-code : (l r : Term) → sound (pair Prior l r) ≡ true → within 8 (pair Prior l r) ≡ true → (x y : Row)
    → code (pair Prior l r) x y ≡ prior_code (code l x y) (code r x y)
prior-code l r s w x y = ap code_of (prior-outcome l r s w x y) ∙ prior-coded (outcome l x y) (outcome r x y)

-- DUAL: 1 and 2 change places.
pub dual-code : (t : Term) → sound t ≡ true → within 8 t ≡ true → (x y : Row) → code (dual t) x y ≡ turned_code (code t x y)
dual-code t s w x y = ap code_of (outcome-dual t s w x y) ∙ turned-coded (outcome t x y)

-- Every compound of two parts joins its parts' codes.
pub pair_code : (op : Pair) (l r : Term) → sound (pair op l r) ≡ true → within 8 (pair op l r) ≡ true → (x y : Row)
    → code (pair op l r) x y ≡ joined_code op (code l x y) (code r x y)
unfolding joined_code
pair_code Pareto l r s w x y = pareto-code l r s w x y
pair_code Prior l r s w x y = prior-code l r s w x y
pair_code Both l r s w x y = both_code l r s w x y
