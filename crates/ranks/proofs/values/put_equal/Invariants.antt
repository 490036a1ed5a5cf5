-- `ranks::values::put_equal` meets its contract: the ranks below j.
use Rattle.std.proofs.Common.{ℕ, ◌≡◌, ◌<◌, ◌≤◌, cond, pos, get_or}
use Rattle.ranks.specs.Put.{is_number}
use Rattle.ranks.proofs.values.put_equal.Given as goal

abbrev pub invariant-loop-j : goal.invariant-loop-j
invariant-loop-j l =
    ((h : ℕ) → h < l.j → get_or l.ranks h (pos 0) ≡ cond (is_number l.fn.u (get_or l.cells h (pos 0))) l.fn.y (get_or l.initial.ranks h (pos 0)))
    × ((h : ℕ) → l.j ≤ h → get_or l.ranks h (pos 0) ≡ get_or l.initial.ranks h (pos 0))
