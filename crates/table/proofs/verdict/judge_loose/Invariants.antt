-- `table::verdict::judge_loose` meets its contract. No record below `k` is loose.
use mathlib.Core.Path.{◌≡◌}
use Prim.Native.Nat.{ℕ}
use Rattle.std.specs.Prelude.{Ok}
use Rattle.model.specs.Replies.{refusal}
use Rattle.model.specs.Check.{refuse_if, each_below}
use Rattle.table.specs.Verdict.{loose_by}
use Rattle.table.proofs.verdict.judge_loose.Given as goal

abbrev pub invariant-loop-k : goal.invariant-loop-k
invariant-loop-k l = each_below l.k (λ (i : ℕ). refuse_if (loose_by l.terms l.used l.near i) (refusal 14 i)) ≡ Ok tt
