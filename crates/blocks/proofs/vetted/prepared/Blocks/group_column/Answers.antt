-- `blocks::vetted::prepared::Blocks::group_column` meets its contract.
use native.Mathlib.Omega.{arith}
use mir.Facts.{to_z-of_z}
use borrow.Author.Rules.{rules}
use Prim.Native.Nat.{◌+◌, ◌*◌, ◌/◌, ◌%◌}
use lib.IntN.{pos}
use lib.ListN.{get_or}
use Rattle.rows.specs.Places.{place_in}
use Rattle.blocks.proofs.Grouping.{columned_set}
use mir.Syntax.{w32}
use Rattle.blocks.proofs.vetted.prepared.Blocks.group_column.Goals as goal

pub bounds-self-i : goal.bounds-self-i
bounds-self-i c =
    let a = c.args.self.now in
    let p = c.requires in
    place_in a.rows.n 512 a.ready.value_room c.args.i c.args.c p.row (omega (arith, a.rows.narrow, p.column))

pub equal_lanes-requires : goal.equal_lanes-requires
equal_lanes-requires c =
    let a = c.args.self.now in
    let p = c.requires in
    record { values = omega (arith, a.rows.narrow, p.column, a.ready.value_room.each c.args.b p.block); live = p.lanes }

pub returns-then-self-c-eq1 : goal.returns-then-self-c-eq1
returns-then-self-c-eq1 c =
    let a = c.args.self.now in
    let p = c.requires in
    let value = get_or a.values.now (c.args.i / 64 * 512 + c.args.c * 64 + c.args.i % 64) (pos 0) in
    columned_set c.if-self-c-eq1.true a.ready.valued p.column p.row
    (to_z-of_z {w = w32} {z = value} (search rules))
    c.equal_lanes.ensures
