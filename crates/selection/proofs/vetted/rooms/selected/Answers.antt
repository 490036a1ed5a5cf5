-- `selection::vetted::rooms::selected` meets its contract.
use Rattle.model.specs.Query.{row_count}
use Rattle.laws.specs.AcceptedTable.{accepted-table}
use Rattle.selection.specs.Taken.{asked-rows, few-columns}
use Rattle.selection.proofs.vetted.rooms.selected.Goals as goal

pub nonzero_div-n : goal.nonzero_div-n
nonzero_div-n g c = (accepted-table _ _ c.requires.of_term.is_accepted).some_column

pub invariant_of-rows : goal.invariant_of-rows
unfolding row_count
invariant_of-rows g c =
    let r = asked-rows c.requires in
    record { whole = r.run; narrow = few-columns c.requires.of_term; few = r.few }

pub in_room-requires : goal.in_room-requires
unfolding row_count
in_room-requires g c = c.requires.long

pub returns : goal.returns
unfolding row_count
returns g c = c.in_room.ensures
