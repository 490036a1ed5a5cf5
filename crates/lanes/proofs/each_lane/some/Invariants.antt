use Rattle.std.proofs.Common.{◌≡◌, true, false, ℕ, ◌<◌}
use Rattle.lanes.proofs.each_lane.some.Given as goal

-- What is found below j.
abbrev pub invariant-loop-j : goal.invariant-loop-j
invariant-loop-j g l = record {
  found : l.some ≡ true → (k : ℕ) × (k < l.j) × goal.F-post g l.lane k true;
  none : l.some ≡ false → (k : ℕ) → k < l.j → goal.F-post g l.lane k false;
}
