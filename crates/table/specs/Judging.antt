-- One record judged in steps: 3 to 8; then 9 to 13, which rest on 3 to 8 and on the records before.
use Rattle.std.specs.Prelude.{◌≡◌, Bool, List, ℕ, ◌<◌, ◌≤◌, Ok}
use Rattle.model.specs.Words.{Verdict}
use Rattle.model.specs.declared.Refusal.{Refusal}
use Rattle.model.specs.Record.{kind_at, record_at}
use Rattle.model.specs.Replies.{refusal}
use Rattle.model.specs.Check.{refuse_if, ◌then◌, each_below, judge, fails_kind, fails_filler, fails_column, fails_part}
use Rattle.model.specs.Check.{fails_reused, fails_stray, fails_crowd, fails_clash, fails_loop, fails_bounds, fails_apart}

-- One rule, then the verdict of the rules after it.
abbrev pub refuse_or : Bool → Refusal → Verdict → Verdict
refuse_or test why next = refuse_if test why then next

-- 3 to 8, then the rest.
unfoldable pub judge_fields : List ℕ → ℕ → ℕ → Verdict → Verdict
judge_fields table columns k next =
    refuse_or (fails_kind (record_at table k)) (refusal 3 k)
    (refuse_or (fails_filler table k) (refusal 4 k)
    (refuse_or (fails_column columns (record_at table k)) (refusal 5 k)
    (refuse_or (fails_part table k) (refusal 6 k)
    (refuse_or (fails_reused table k) (refusal 7 k)
    (refuse_or (fails_stray table k) (refusal 8 k) next)))))

-- 9 to 11, of a value record's run, then the rest.
unfoldable pub judge_run : List ℕ → ℕ → Verdict → Verdict
judge_run table k next =
    refuse_or (fails_crowd table k) (refusal 9 k)
    (refuse_or (fails_clash table k) (refusal 10 k)
    (refuse_or (fails_loop table k) (refusal 11 k) next))

-- 12 and 13.
unfoldable pub judge_shape : List ℕ → ℕ → Verdict
judge_shape table k = refuse_or (fails_bounds table k) (refusal 12 k) (refuse_if (fails_apart table k) (refusal 13 k))

-- Record k is reached: the columns are at most 8, and every record below it passed.
pub record Reached (table : List ℕ) (columns k : ℕ) : Type 0 where
  pub few : k < 128
  pub narrow : columns ≤ 8
  pub passed : each_below k (judge table columns) ≡ Ok tt

-- It passed 3 to 8 too.
pub record Fielded (table : List ℕ) (columns k : ℕ) : Type 0 where
  pub reached : Reached table columns k
  pub fields : judge_fields table columns k (Ok tt) ≡ Ok tt

-- It is a value record.
pub record ValueFielded (table : List ℕ) (columns k : ℕ) : Type 0 where
  pub fielded : Fielded table columns k
  pub kind : kind_at table k ≡ 0
