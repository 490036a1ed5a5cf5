-- Outcomes as codes (SPECIFICATION, "Compare"): same 0, first better 1, second better 2, unranked 3. PARETO's code is
-- the bitwise or of its parts' codes, BOTH's too, PRIOR's is the left's unless that is 0, and DUAL changes 1 and 2.
-- Assumes nothing.
use Rattle.std.specs.Prelude.{◌≡◌, refl, cond, ℕ, ◌<◌, eqb}
use Rattle.std.proofs.Common.{sym, ◌∙◌, ap, arith}
use Rattle.std.specs.Int.Bits.{bit_or}
use Rattle.model.specs.declared.{Outcome.Outcome, Pair.Pair}
use Rattle.model.specs.declared.Outcome.TheVariants.{Same, First, Second, Unranked}
use Rattle.model.specs.declared.Pair.TheVariants.{Pareto, Prior, Both}
use Rattle.model.specs.Term.{Term}
use Rattle.model.specs.Better.{Row}
use Rattle.model.specs.Compare.{outcome}

-- The code of an outcome.
abbrev pub code_of : Outcome → ℕ
code_of Same = 0
code_of First = 1
code_of Second = 2
code_of Unranked = 3

-- The outcome of a code.
unfoldable pub outcome_of : ℕ → Outcome
outcome_of code = cond (eqb code 0) Same (cond (eqb code 1) First (cond (eqb code 2) Second Unranked))

-- A code says which outcome it stands for,
pub outcome-of-code : (o : Outcome) → outcome_of (code_of o) ≡ o
unfolding outcome_of
outcome-of-code Same = refl
outcome-of-code First = refl
outcome-of-code Second = refl
outcome-of-code Unranked = refl

-- no two outcomes have one code,
pub code-injective : (a b : Outcome) → code_of a ≡ code_of b → a ≡ b
code-injective a b e = sym (outcome-of-code a) ∙ ap outcome_of e ∙ outcome-of-code b

-- and codes are below 4.
pub code_below : (o : Outcome) → code_of o < 4
code_below Same = omega arith
code_below First = omega arith
code_below Second = omega arith
code_below Unranked = omega arith

-- ---- the algebra of codes

-- Left unless it is 0, then right.
unfoldable pub prior_code : ℕ → ℕ → ℕ
prior_code a b = cond (eqb a 0) b a

-- 1 and 2 change places.
unfoldable pub turned_code : ℕ → ℕ
turned_code code = cond (eqb code 1) 2 (cond (eqb code 2) 1 code)

-- ---- terms

-- The code of a comparison.
abbrev pub code : Term → Row → Row → ℕ
code t x y = code_of (outcome t x y)

-- A compound's code from its parts' codes, by kind.
unfoldable pub joined_code : Pair → ℕ → ℕ → ℕ
joined_code Pareto a b = bit_or a b
joined_code Prior a b = prior_code a b
joined_code Both a b = bit_or a b
