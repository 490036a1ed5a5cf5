-- `selection::vetted::rooms::in_room` meets its contract.
use Rattle.std.proofs.Common.{◌+◌, ◌*◌}
use Rattle.selection.specs.Ranks.{room_for, most-ranks, stride-for}
use Rattle.selection.proofs.vetted.rooms.in_room.Goals as goal

-- The last room holds the ranks of any rows.
pub in_ranks-requires-2-clause-ranks : goal.in_ranks-requires-2-clause-ranks
in_ranks-requires-2-clause-ranks g c =
    let a = c.args.asked.now in
    let n = a.rows.n in
    let stride = a.term * 64 + 64 in
    room_for n stride 131072 (most-ranks n stride a.rows.few (stride-for a.taken).narrow)
