-- `blocks::base::BaseBlock::explicit_codes` meets its contract.
use mathlib.Core.Path.{◌∙◌}
use mir.Facts.{to_z-of_z}
use mir.Syntax.{w32}
use borrow.Author.Rules.{rules}
use Rattle.blocks.proofs.Lanes.{own_place, place-coded}
use Rattle.blocks.proofs.base.BaseBlock.explicit_codes.Goals as goal

pub returns : goal.returns
returns c =
    let a = c.args.self.now in
    let own = own_place c.requires.explicit a.asked in
    place-coded a.run.values c.requires.explicit a.asked own
    (rw (to_z-of_z {w = w32} {z = a.rank} (search rules) ∙ own.is) at c.against-to.ensures)
    (rw (to_z-of_z {w = w32} {z = a.value} (search rules)) at c.place_lanes.ensures)
