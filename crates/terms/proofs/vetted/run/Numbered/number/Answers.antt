-- `terms::vetted::run::Numbered::number` meets its contract.
use mathlib.Core.Path.{◌∙◌}
use mir.Val.{SFits}
use mir.Syntax.{w32}
use mir.Facts.{to_z-of_z}
use lib.IntN.{pos}
use lib.ListN.{get_or}
use borrow.Author.Rules.{rules}
use Rattle.terms.proofs.vetted.run.Numbered.number.Goals as goal

pub returns : goal.returns
returns c =
    let g : SFits w32 (get_or c.args.self.now.numbers.now c.args.i (pos 0)) = record { sfits = search rules } in
    to_z-of_z g ∙ c.args.self.now.numbered.each c.args.i c.requires
