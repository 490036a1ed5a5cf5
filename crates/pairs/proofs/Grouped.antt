-- Which of two rows of a run beats the other, by the code of their outcome in a group. Assumes nothing.
use mathlib.Core.Path.{◌≡◌, refl, sym, ◌∙◌, ap}
use mathlib.Core.Bool.{Bool, true, false, cond, ◌&&◌}
use mathlib.Core.List.{List}
use Prim.Native.Nat.{ℕ, ◌<◌}
use lib.Dec.{eqb}
use lib.IntN.{ℤ}
use lib.ListN.{get_or}
use Rattle.model.specs.declared.{Outcome.Outcome}
use Rattle.model.specs.Term.{Term, term_at}
use Rattle.model.specs.Better.{equal_in}
use Rattle.model.specs.Compare.{outcome}
use Rattle.model.specs.Query.{row_at, beats_in}
use Rattle.laws.specs.Bools.{off, and_l}
use Rattle.laws.specs.Taken.{TakenTerm}
use Rattle.laws.proofs.Taken.{taken-sound}
use Rattle.laws.specs.Codes.{code_of}
use Rattle.rows.specs.Keys.{Keyed}
use Rattle.laws.proofs.Beats.{beats-one, beats-two}
use Rattle.pairs.specs.GroupsPairs.{outcome_in, group_outcome}

-- In different groups neither is better.
one_in : (e : Bool) (o : Outcome) → (e && eqb (code_of o) 1) ≡ eqb (code_of (cond e o Outcome.Unranked)) 1
one_in true o = refl
one_in false o = refl

two_in : (e : Bool) (o : Outcome) → (e && eqb (code_of o) 2) ≡ eqb (code_of (cond e o Outcome.Unranked)) 2
two_in true o = refl
two_in false o = refl

module _ {table : List ℕ} {term columns : ℕ} (k : TakenTerm table columns term) (rows : List ℤ) (group i j : ℕ) {r : ℕ}
    (is : r ≡ code_of (group_outcome (term_at table term) columns rows group i j)) where
  -- Row i beats row j: code 1.
  pub group-first : beats_in (term_at table term) columns rows group i j ≡ eqb r 1
  unfolding group_outcome outcome_in
  group-first =
      let s = taken-sound table columns term k in
      beats-one (term_at table term) s.0 s.1 columns rows group i j
      ∙ one_in (equal_in group (row_at columns rows i) (row_at columns rows j))
      (outcome (term_at table term) (row_at columns rows i) (row_at columns rows j))
      ∙ ap (λ (x : ℕ). eqb x 1) (sym is)

  -- Row j beats row i: code 2.
  pub group-second : beats_in (term_at table term) columns rows group j i ≡ eqb r 2
  unfolding group_outcome outcome_in
  group-second =
      let s = taken-sound table columns term k in
      beats-two (term_at table term) s.0 s.1 columns rows group i j
      ∙ two_in (equal_in group (row_at columns rows i) (row_at columns rows j))
      (outcome (term_at table term) (row_at columns rows i) (row_at columns rows j))
      ∙ ap (λ (x : ℕ). eqb x 2) (sym is)

-- Rows of different keys are in different groups, so that neither beats the other.
pub keys-apart : {group columns : ℕ} {rows : List ℤ} {n : ℕ} {keys : List ℕ} → Keyed group columns rows n keys
    → (t : Term) (i j : ℕ) → i < n → j < n → (get_or keys i 0 ≡ get_or keys j 0 → ⊥)
    → (beats_in t columns rows group i j ≡ false) × (beats_in t columns rows group j i ≡ false)
unfolding beats_in
keys-apart {group} {columns} {rows} keyed t i j l m differ = (
  off _ (λ e. differ (sym (keyed.each j i m l (and_l _ _ e)))),
  off _ (λ e. differ (keyed.each i j l m (and_l _ _ e))),
)
