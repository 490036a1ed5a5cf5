-- `blocks::vetted::prepared::Blocks::record_codes` meets its contract.
use mathlib.Core.Path.{sym, ◌∙◌}
use Prim.Native.Nat.{◌+◌, ◌*◌, ◌/◌, ◌%◌}
use native.Mathlib.Omega.{arith}
use lib.IntN.{pos}
use lib.ListN.{get_or}
use mir.Facts.{to_z-of_z}
use mir.Syntax.{w32}
use borrow.Author.Rules.{rules}
use Rattle.plan.specs.Codes.{column-below}
use Rattle.blocks.specs.Coded.{ok, below, record-below, ranks-end, value_room}
use Rattle.blocks.proofs.OfBase.{base-asked, values-end, base-coded}
use Rattle.blocks.proofs.OfCompound.{parts_below}
use Rattle.blocks.proofs.vetted.prepared.Blocks.record_codes.Goals as goal

pub bounds-self-i-in-Base : goal.bounds-self-i-in-Base
bounds-self-i-in-Base c =
    let ready = c.args.self.now.ready in
    let is = sym c.record.ensures ∙ c.in-Base.is in
    omega (arith, value_room ready c.requires.here, column-below (ok ready) (below ready c.requires.here) is)

pub invariant_of-block-in-Base : goal.invariant_of-block-in-Base
invariant_of-block-in-Base c =
    let a = c.args.self.now in
    let is = sym c.record.ensures ∙ c.in-Base.is in
    let rank = get_or a.ranks.now (c.args.i / 64 * a.stride + c.args.k * 64 + c.args.i % 64) (pos 0) in
    let value = get_or a.values.now (c.args.i / 64 * 512 + c.in-Base.column * 64 + c.args.i % 64) (pos 0) in
    let x = to_z-of_z {w = w32} {z = rank} (search rules) in
    let v = to_z-of_z {w = w32} {z = value} (search rules) in
    record {
      asked = rw (x, v) (base-asked a.ready c.requires.here is);
      ranks_end = ranks-end a.ready c.requires.here;
      values_end = values-end a.ready c.requires.here is;
    }

pub compound_lanes-requires : goal.compound_lanes-requires
compound_lanes-requires c =
    let ready = c.args.self.now.ready in
    record {
      codes = omega (arith, record-below ready c.requires.here, c.requires.room);
      parts = parts_below ready c.requires.here (sym c.record.ensures ∙ c.in-Compound.is);
    }

pub returns-in-Base : goal.returns-in-Base
returns-in-Base c =
    let a = c.args.self.now in
    let is = sym c.record.ensures ∙ c.in-Base.is in
    let value = get_or a.values.now (c.args.i / 64 * 512 + c.in-Base.column * 64 + c.args.i % 64) (pos 0) in
    base-coded a.ready c.requires.here is c.requires.below
    (rw (to_z-of_z {w = w32} {z = value} (search rules)) at c.base_codes.ensures)
