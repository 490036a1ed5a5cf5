-- `perfect::marks::is_perfect` meets its contract. The arrays hold the marks of the terms below record `k`.
use Rattle.std.proofs.Common.{◌≡◌, true, false, length, get_or}
use Rattle.perfect.proofs.MarksLaws.{Below}
use Rattle.perfect.proofs.marks.is_perfect.Given as goal

abbrev pub invariant-loop-k : goal.invariant-loop-k
invariant-loop-k l =
    (length l.best ≡ 256) × (length l.worst ≡ 256)
    × Below l.table l.row false l.k (λ i. get_or l.best i false)
    × Below l.table l.row true l.k (λ i. get_or l.worst i false)
