-- `direct::tests::values_code` meets its contract.
use mathlib.Core.Path.{◌≡◌, refl, sym, ◌∙◌, ap}
use native.Mathlib.Nat.{zero-add}
use native.Mathlib.Omega.{arith}
use Prim.Native.Nat.{ℕ, ◌<◌}
use lib.IntN.{pos}
use lib.ListN.{get_or}
use mir.Syntax.{w32}
use mir.Val.{to_z, of_z}
use mir.Facts.{to_z-of_z}
use borrow.Author.Rules.{rules, sfits_of}
use Rattle.model.specs.Record.{is_term}
use Rattle.model.specs.Better.{cell}
use Rattle.model.specs.Query.{row_at}
use Rattle.pairs.specs.Pairs.{RecordOf, RowOf}
use Rattle.pairs.proofs.Coded.{two-ranked}
use Rattle.direct.proofs.tests.values_code.Goals as goal

pub explicit_code-requires-clause-ranked : goal.explicit_code-requires-clause-ranked
explicit_code-requires-clause-ranked c =
    let s = c.args.pairs.now in
    let p = s.comparable in
    let read = rw c.in-Base-default-Explicit.field-1-is at (sym c.record.ensures ∙ c.in-Base-default-Explicit.is) in
    let is = rw c.requires.table at read in
    let r : RecordOf s.table.now s.marks.now s.term 1 =
    record { most = c.if-k-pairs.true; is_record = ap is_term is; marked = c.if-pairs-k.true } in
    let row : (i : ℕ) → i < s.rows.n → RowOf s.rows.columns s.rows.cells.now s.rows.n i (row_at s.rows.columns s.rows.cells.now i) =
    λ i l. record { below = l; is = refl } in
    let cells = c.cells-cells.result in
    let column = c.in-Base-default-Explicit.c in
    let cell-is : (i : ℕ) → i < s.rows.n → get_or cells i (pos 0) ≡ cell (row_at s.rows.columns s.rows.cells.now i) column =
    λ i l. rw (zero-add i) at (c.cells-cells.ensures i (omega (arith, l, c.requires.few)) (omega (arith, l))) in
    let v : to_z w32 (of_z w32 (get_or cells c.args.i (pos 0))) ≡ get_or cells c.args.i (pos 0) = search rules in
    let w : to_z w32 (of_z w32 (get_or cells c.args.j (pos 0))) ≡ get_or cells c.args.j (pos 0) = search rules in
    let x = to_z-of_z {w = w32} {z = c.rank_at-x.result} (sfits_of c.rank_at-x.type_inv) ∙ c.rank_at-x.ensures in
    let y = to_z-of_z {w = w32} {z = c.rank_at-y.result} (sfits_of c.rank_at-y.type_inv) ∙ c.rank_at-y.ensures in
    rw (v ∙ cell-is c.args.i c.if-i-pairs.true, w ∙ cell-is c.args.j c.if-j-pairs.true, x, y)
    (two-ranked p r is (row c.args.i c.if-i-pairs.true) (row c.args.j c.if-j-pairs.true))
