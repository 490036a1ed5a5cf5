-- `table::filler::row_of` meets its contract.
use native.Mathlib.Omega.{arith}
use borrow.Author.Tests.{lt-ltb, le-ltb}
use Rattle.table.specs.Filler.{row_of}
use Rattle.table.proofs.FillerRows.{in-second}
use Rattle.table.proofs.filler.row_of.Goals as goal

pub returns-then-kind-role : goal.returns-then-kind-role
unfolding row_of
returns-then-kind-role c = (simp c.if-kind-role.true, omega arith)

pub returns-then-kind-lt11 : goal.returns-then-kind-lt11
unfolding row_of
returns-then-kind-lt11 c = (simp (c.if-kind-role.false, lt-ltb _ _ c.if-kind-lt11.true), omega arith)

pub returns : goal.returns
unfolding row_of
returns c =
    (simp (c.if-kind-role.false, le-ltb _ _ c.if-kind-lt11.false), omega (arith, in-second c.args.kind c.requires c.if-kind-lt11.false))
