use native.Mathlib.Nat.{le_antisymm}
use Rattle.laws.specs.Rounds.{settled-of}
use Rattle.blocks.specs.Hits.{ready-strict}
use Rattle.parts.proofs.rounds.eliminate.Goals as goal

pub returns-clause-settled : goal.returns-clause-settled
returns-clause-settled c =
    let q = le_antisymm c.loop-i.auto.i-end c.loop-i-test.false in
    settled-of _ _ _ (ready-strict c.args.blocks.now.ready _) (rw q at c.loop-i.invariant.rounds)
