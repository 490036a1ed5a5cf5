-- The run of values that a value record stands in, and its CROWD, CLASH and LOOP by the records between. Assumes nothing.
use mathlib.Core.Path.{◌≡◌, refl, ◌∙◌}
use mathlib.Core.List.{List}
use Prim.Native.Nat.{ℕ, ◌+◌, ◌-◌, ◌<◌, ◌≤◌}
use native.Mathlib.Omega.{arith}
use lib.Dec.{leb}
use borrow.Author.Tests.{lt-leb}
use Rattle.model.specs.Words.{Verdict}
use Rattle.model.specs.declared.{Record.Record}
use Rattle.model.specs.Record.{kind_at, record_of, record_at, nearest_term}
use Rattle.model.specs.Replies.{refusal}
use Rattle.model.specs.Check.{fails_crowd, fails_clash, fails_loop}
use Rattle.laws.specs.AcceptedRuns.{Run, run_of}
use Rattle.laws.specs.ValueRules.{value-crowd, value-clash, value-loop}
use Rattle.laws.specs.Records.{kind_number, kind-of}
use Rattle.records.specs.Fields.{value_at}
use Rattle.terms.specs.Run.{Values}
use Rattle.table.specs.Rules.{clash_in, loop_in}
use Rattle.table.specs.Judging.{refuse_or, judge_run, ValueFielded}
use Rattle.table.proofs.Fielded.{rest_of, below}

value-record : (table : List ℕ) (i : ℕ) → kind_at table i ≡ 0 → record_at table i ≡ Record.Value (value_at table i)
unfolding record_at record_of
value-record table i e = rw e

module _ (table : List ℕ) (columns k : ℕ) (f : ValueFielded table columns k) where
  here : record_at table k ≡ Record.Value (value_at table k)
  here = value-record table k f.kind

  -- The run of values that record k stands in.
  pub run : Run table (nearest_term table k) k
  run = run_of table columns k (below table columns k f.fielded) (value_at table k) here (rest_of table columns k f.fielded).1

  each : (i : ℕ) → nearest_term table k < i → i < k → record_at table i ≡ Record.Value (value_at table i)
  unfolding kind_number
  each i l m =
      let v = run.values i l m in
      value-record table i (kind-of table i (Record.Value v.0) v.1 refl)

  -- With at most 16 of them, CLASH and LOOP can look at them.
  pub values : k ≤ nearest_term table k + 16 → Values table (nearest_term table k) k
  values h = record { before = run.before; few = omega arith; last = omega (arith, f.fielded.reached.few); each = each }

  -- CROWD, CLASH and LOOP by the records between.
  pub crowd-is : fails_crowd table k ≡ leb 16 (k - nearest_term table k - 1)
  crowd-is = value-crowd table k (value_at table k) here ∙ rw (run.earlier, run.size)

  pub clash-is : fails_clash table k ≡ clash_in table (nearest_term table k) k
  unfolding clash_in
  clash-is = value-clash table k (value_at table k) here ∙ rw run.earlier

  pub loop-is : fails_loop table k ≡ loop_in table (nearest_term table k) k
  unfolding loop_in
  loop-is = value-loop table k (value_at table k) here ∙ rw run.earlier

  -- With at most 16 of them CROWD refuses nothing, and CLASH and LOOP are left.
  pub run-few : k ≤ nearest_term table k + 16 → (next : Verdict)
      → judge_run table k next
      ≡ refuse_or (clash_in table (nearest_term table k) k) (refusal 10 k)
      (refuse_or (loop_in table (nearest_term table k) k) (refusal 11 k) next)
  unfolding judge_run
  run-few h next =
      rw (crowd-is, lt-leb 16 (k - nearest_term table k - 1) (omega (arith, run.before)), clash-is, loop-is) refl
