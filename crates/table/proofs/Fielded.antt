-- What a record that passed 3 to 8 is known to be, and the records below it. Assumes nothing.
use mathlib.Core.Path.{◌≡◌, refl}
use mathlib.Core.Bool.{Bool, false}
use mathlib.Core.List.{List}
use Prim.Native.Nat.{ℕ, ◌<◌, ◌≤◌}
use native.Mathlib.Omega.{arith}
use borrow.Author.Tests.{ltb-true, lt-ltb, not-false}
use Rattle.std.specs.Prelude.{Ok}
use Rattle.model.specs.Words.{Verdict}
use Rattle.model.specs.declared.{Record.Record, Refusal.Refusal}
use Rattle.model.specs.declared.Record.TheVariants.{Base, Compound, Unknown}
use Rattle.model.specs.Record.{record_at}
use Rattle.model.specs.Replies.{refusal}
use Rattle.model.specs.Check.{refuse_if, fails_kind, fails_filler, fails_reused, fails_column, fails_part, fails_stray}
use Rattle.laws.specs.Verdicts.{refuse-passed, then-passed}
use Rattle.laws.specs.Accepted.{Judged, judged-below}
use Rattle.table.specs.Judging.{refuse_or, judge_fields, Fielded}

-- One rule of a chain that passes.
cut : (b : Bool) (why : Refusal) (next : Verdict) → refuse_or b why next ≡ Ok tt → (b ≡ false) × (next ≡ Ok tt)
cut b why next e =
    let both = (then-passed (refuse_if b why) next).0 e in ((refuse-passed b why).0 both.0, both.1)

-- A column below a count of at most 8 is below 8.
pub column-more : (columns : ℕ) → columns ≤ 8 → (r : Record) → fails_column columns r ≡ false → fails_column 8 r ≡ false
column-more columns h (Record.Value a) e = refl
column-more columns h (Base column b) e =
    let l : column < columns = ltb-true column columns (not-false _ e) in rw (lt-ltb column 8 (omega arith))
column-more columns h (Compound c) e = refl
column-more columns h Unknown e = refl

module _ (table : List ℕ) (columns k : ℕ) (f : Fielded table columns k) where
  -- Two of its rules.
  pub rest_of : (fails_part table k ≡ false) × (fails_stray table k ≡ false)
  unfolding judge_fields
  rest_of =
      let a = cut (fails_kind (record_at table k)) (refusal 3 k) _ f.fields in
      let b = cut (fails_filler table k) (refusal 4 k) _ a.1 in
      let c = cut (fails_column columns (record_at table k)) (refusal 5 k) _ b.1 in
      let d = cut (fails_part table k) (refusal 6 k) _ c.1 in
      let e = cut (fails_reused table k) (refusal 7 k) _ d.1 in
      (d.0, (cut (fails_stray table k) (refusal 8 k) _ e.1).0)

  -- The records below it passed all.
  pub below : (i : ℕ) → i < k → Judged table columns i
  below = judged-below table columns k f.reached.passed
