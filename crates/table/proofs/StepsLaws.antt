-- A record judged by `judge` is judged in steps. Assumes nothing.
use mathlib.Core.Path.{◌≡◌, refl, sym, ◌∙◌, ap}
use mathlib.Core.List.{List}
use Prim.Native.Nat.{ℕ}
use Rattle.std.specs.Prelude.{Ok, Err}
use Rattle.model.specs.Words.{Verdict}
use Rattle.model.specs.Check.{◌then◌, judge}
use Rattle.table.specs.Judging.{judge_fields, judge_run, judge_shape}

then-assoc : (a b c : Verdict) → ((a then b) then c) ≡ (a then (b then c))
then-assoc (Ok u) b c = refl
then-assoc (Err why) b c = refl

pub then-end : (a : Verdict) → (a then Ok tt) ≡ a
then-end (Ok u) = refl
then-end (Err why) = refl

module _ (table : List ℕ) (columns k : ℕ) where
  -- The chain of 3 to 8 can be cut off and taken up again.
  pub fields-next : (next : Verdict) → judge_fields table columns k next ≡ (judge_fields table columns k (Ok tt) then next)
  unfolding judge_fields
  fields-next next = sym (simp then-assoc)

  -- Record k is judged by 3 to 8, then 9 to 11, then 12 and 13.
  pub judge-steps : judge table columns k ≡ judge_fields table columns k (judge_run table k (judge_shape table k))
  unfolding judge judge_fields judge_run judge_shape
  judge-steps = refl

  -- So the verdict of 3 to 8 goes first, then that of 9 to 13.
  pub judge-after : (first : Verdict) → judge_fields table columns k (Ok tt) ≡ first
      → judge table columns k ≡ (first then judge_run table k (judge_shape table k))
  judge-after first e =
      judge-steps ∙ fields-next (judge_run table k (judge_shape table k)) ∙ ap (λ (v : Verdict). v then judge_run table k (judge_shape table k)) e
