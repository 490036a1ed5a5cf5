-- Which rules of a record are left to look at: the laws behind `judging`. Assumes nothing.
use mathlib.Core.Path.{◌≡◌, sym, ◌∙◌}
use mathlib.Core.Bool.{false}
use mathlib.Core.List.{List, []}
use Prim.Native.Nat.{ℕ}
use lib.Dec.{eqb}
use Rattle.std.specs.Prelude.{Ok}
use Rattle.model.specs.Words.{Verdict}
use Rattle.model.specs.Record.{kind_at, p_at, q_at, u_at, v_at, record_at, value_in}
use Rattle.model.specs.Replies.{refusal}
use Rattle.model.specs.Check.{refuse_if, fails_bounds, fails_apart}
use Rattle.laws.specs.ValueRules.{no-crowd, no-clash, no_loop}
use Rattle.records.proofs.ByKind.{value_of}
use Rattle.table.specs.Judging.{refuse_or, judge_run, judge_shape}
use Rattle.table.proofs.StepsLaws.{then-end}
use Rattle.table.proofs.ApartLaws.{apart_none}

-- 12 is for BETWEEN alone, and 13 for BOTH.
pub shape-bounds : (table : List ℕ) (k : ℕ) → eqb (kind_at table k) 18 ≡ false
    → judge_shape table k ≡ refuse_or (fails_bounds table k) (refusal 12 k) (Ok tt)
unfolding judge_shape
shape-bounds table k e = rw (apart_none table k e)

pub shape-apart : (table : List ℕ) (k : ℕ) → eqb (kind_at table k) 4 ≡ false
    → judge_shape table k ≡ refuse_or (fails_apart table k) (refusal 13 k) (Ok tt)
unfolding judge_shape fails_bounds
shape-apart table k e = rw e (sym (then-end (refuse_if (fails_apart table k) (refusal 13 k))))

pub shape-none : (table : List ℕ) (k : ℕ) → eqb (kind_at table k) 4 ≡ false → eqb (kind_at table k) 18 ≡ false
    → judge_shape table k ≡ Ok tt
shape-none table k a b = shape-apart table k a ∙ rw (apart_none table k b)

-- 9 to 11 do not hold of a record that is no value.
pub run_none : (table : List ℕ) (k : ℕ) (next : Verdict) → eqb (kind_at table k) 0 ≡ false → judge_run table k next ≡ next
unfolding judge_run record_at
run_none table k next e =
    let n : value_in (record_at table k) ≡ [] = value_of (kind_at table k) (p_at table k) (q_at table k) (u_at table k) (v_at table k) ∙ rw e in
    rw (no-crowd table k n, no-clash table k n, no_loop table k n)
