-- `blocks::base::BaseBlock::base_codes` meets its contract.
use mathlib.Core.Path.{ap}
use mathlib.Core.Logic.{⊎_elim}
use native.Mathlib.Omega.{arith}
use mir.Facts.{to_z-of_z}
use mir.Syntax.{w32}
use borrow.Author.Rules.{rules}
use Rattle.laws.specs.Runs.{values_between}
use Rattle.ranks.specs.ByRank.{is_explicit, lowest-same, highest-same}
use Rattle.blocks.proofs.Lanes.{ranked-coded, order-coded}
use Rattle.blocks.proofs.base.BaseBlock.base_codes.Goals as goal

pub returns-in-Lowest : goal.returns-in-Lowest
unfolding is_explicit
returns-in-Lowest c =
    let a = c.args.self.now in
    let values = values_between a.run.of.table.now a.run.k a.run.e in
    let wrote = (rw (to_z-of_z {w = w32} {z = a.rank} (search rules)) at c.order_lanes.ensures) in
    ⊎_elim
    (λ e. order-coded (ap is_explicit e) (λ y z. rw e (lowest-same values y z)) a.asked wrote)
    (λ e. order-coded (ap is_explicit e) (λ y z. rw e (highest-same values y z)) a.asked wrote)
    c.in-Lowest.is

pub returns-in-Around : goal.returns-in-Around
unfolding is_explicit
returns-in-Around c =
    let a = c.args.self.now in
    let x = to_z-of_z {w = w32} {z = a.rank} (search rules) in
    let v = to_z-of_z {w = w32} {z = a.value} (search rules) in
    ranked-coded (grind (arith, c.in-Around.is)) a.asked (rw (x, v) at c.ranked_lanes.ensures)
