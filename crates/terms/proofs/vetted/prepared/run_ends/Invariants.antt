-- `terms::vetted::prepared::run_ends` meets its contract. The records from `k` on have theirs, and `next` is the first term from
-- `k` on.
use mathlib.Core.Path.{◌≡◌}
use Prim.Native.Nat.{ℕ, ◌≤◌, ◌<◌}
use lib.ListN.{length, get_or}
use Rattle.terms.specs.Prepared.{NextTerm}
use Rattle.terms.proofs.RunEnd.{FirstFrom}
use Rattle.terms.proofs.vetted.prepared.run_ends.Given as goal

abbrev pub invariant-loop-k : goal.invariant-loop-k
invariant-loop-k l =
    (length l.ends ≡ 128) × FirstFrom l.table l.k l.n l.next
    × ((j : ℕ) → l.k ≤ j → j < l.n → NextTerm l.table j l.n (get_or l.ends j 0))
