use Rattle.std.proofs.Common.{◌≡◌, ℕ, ◌<◌, ◌≤◌, get_or}
use Rattle.lanes.proofs.each_lane.put.Given as goal

-- The lanes below j are set, the others are as they were.
abbrev pub invariant-loop-j : goal.invariant-loop-j
invariant-loop-j g l = record {
  set : (k : ℕ) (z : g.row.T.Denot) → k < l.j → goal.F-post g l.lane k (get_or l.initial.out k z) (get_or l.out k z);
  left : (k : ℕ) (z : g.row.T.Denot) → l.j ≤ k → get_or l.out k z ≡ get_or l.initial.out k z;
}
