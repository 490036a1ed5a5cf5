-- `table::filler::in_list` meets its contract.
use mathlib.Core.Path.{refl}
use Rattle.table.specs.Filler.{in_list}
use Rattle.table.proofs.filler.in_list.Goals as goal

pub returns : goal.returns
unfolding in_list
returns c = refl
