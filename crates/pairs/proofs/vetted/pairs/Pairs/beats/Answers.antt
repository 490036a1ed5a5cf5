-- `pairs::vetted::pairs::Pairs::beats` meets its contract.
use mathlib.Core.Path.{sym}
use Rattle.pairs.proofs.Grouped.{group-first}
use Rattle.pairs.proofs.vetted.pairs.Pairs.beats.Goals as goal

pub returns : goal.returns
returns c = sym (group-first c.args.self.now.comparable.taken _ _ _ _ c.group_code.ensures)
