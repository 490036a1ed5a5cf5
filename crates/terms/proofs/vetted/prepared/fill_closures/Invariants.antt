-- `terms::vetted::prepared::fill_closures` meets its contract. The rows of the terms below record `k` stand.
use mathlib.Core.Path.{◌≡◌}
use lib.ListN.{length}
use Rattle.terms.proofs.Rows.{ReachedBelow}
use Rattle.terms.proofs.vetted.prepared.fill_closures.Given as goal

abbrev pub invariant-loop-k : goal.invariant-loop-k
invariant-loop-k l = (length l.reach ≡ 256) × ReachedBelow l.table l.ends l.k l.reach
