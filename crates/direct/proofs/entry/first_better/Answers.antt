-- `direct::entry::first_better` meets its contract.
use native.Mathlib.Omega.{arith}
use Rattle.direct.proofs.Sought.{listed-row, sought-hit, sought-by, sought-end}
use Rattle.direct.proofs.entry.first_better.Goals as goal
use Rattle.direct.proofs.entry.first_better.Goals.{then-j-by-via-then-j-by, then-j-by-via-else-j-by+then-beats}

pub beats-requires-clause-first : goal.beats-requires-clause-first
beats-requires-clause-first c = listed-row _ _ _ _ c.requires.listed (omega (arith, c.requires.count))

pub returns-then-j-by : goal.returns-then-j-by
returns-then-j-by c =
    let p = c.requires in
    let v = c.loop-j.invariant in
    elim c.then-j-by.branch [
      | then-j-by-via-then-j-by w ↦ sought-by _ _ _ _ _ p.listed v (omega (arith, p.count)) _ w.if-j-by.true p.by
      | then-j-by-via-else-j-by+then-beats w ↦ sought-hit _ _ _ _ _ p.listed v (omega (arith, p.count)) w.beats.ensures w.if-beats.true
    ]

pub returns : goal.returns
returns c = sought-end _ _ _ _ (omega (arith, c.requires.count)) c.loop-j.invariant
