-- `direct::entries::in_room` meets its contract.
use Rattle.direct.proofs.Buffers.{cleared}
use Rattle.direct.proofs.entries.in_room.Goals as goal

pub settled-requires-clause-cleared : goal.settled-requires-clause-cleared
settled-requires-clause-cleared g c = cleared g.row.N c.requires.room
