use mathlib.Core.Logic.{⊎_elim}
use Prim.Native.Nat.{◌+◌, ◌*◌}
use native.Mathlib.Omega.{arith}
use native.Mathlib.Nat.{add-mul}
use lib.IntN.{pos}
use lib.ListN.{get_or}
use lib.Seq.{get_or-set_same, get_or-set_other}
use mir.Syntax.{w32}
use mir.Facts.{to_z-of_z}
use borrow.Author.Rules.{sfits_of}
use Rattle.laws.specs.Search.{lt-suc-cases}
use Rattle.rows.specs.Places.{row_in}
use Rattle.rows.specs.Stretch.{cell_at}
use Rattle.rows.proofs.vetted.column.Column.fill.Goals as goal

pub bounds-self-first : goal.bounds-self-first
bounds-self-first g c =
    let s = c.args.self.now in
    omega (
      arith,
      row_in _ _ _ s.rows.whole (s.b * 64 + c.loop-j.j) (omega (arith, c.requires.within)),
      add-mul (s.b * 64) c.loop-j.j s.rows.columns,
      s.column,
    )

pub loop-j-preserved : goal.loop-j-preserved
loop-j-preserved g c =
    let s = c.args.self.now in
    let j = c.loop-j.j in
    let read = to_z-of_z {w = w32} {z = get_or s.rows.cells.now (s.b * 64 * s.rows.columns + s.c + j * s.rows.columns) (pos 0)} (sfits_of c.rank-arg-1.given) in
    let stored = to_z-of_z {w = w32} {z = c.rank.result} (record { sfits = c.rank.type_inv }) in
    λ h b. ⊎_elim
    (λ o. rw (get_or-set_other c.loop-j.entries j h _ (pos 0) (λ q. omega (arith, o, q))) (c.loop-j.invariant h o))
    (λ q. rw (q, get_or-set_same c.loop-j.entries j _ (pos 0) (omega arith), stored)
    (rw (read, cell_at s.rows.columns s.b s.c s.column s.rows.cells.now j) at c.rank.ensures))
    (lt-suc-cases h j (omega (arith, b)))
