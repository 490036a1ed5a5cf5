-- `plan::vetted::ops::ops` meets its contract: the steps of the records below k.
use mathlib.Core.Path.{◌≡◌}
use Prim.Native.Nat.{ℕ, ◌<◌}
use lib.ListN.{length, get_or}
use Rattle.model.specs.Record.{record_at}
use Rattle.plan.specs.declared.vetted.ops.{Step.Step}
use Rattle.plan.specs.Ops.{step_of}
use Rattle.plan.proofs.vetted.ops.ops.Given as goal

abbrev pub invariant-loop-k : goal.invariant-loop-k
invariant-loop-k l =
    (length l.steps ≡ 128) × ((h : ℕ) (d : Step) → h < l.k → get_or l.steps h d ≡ step_of (record_at l.of.table.now h))
