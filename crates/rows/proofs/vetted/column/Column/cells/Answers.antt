-- `rows::vetted::column::Column::cells` meets its contract.
use mathlib.Core.Path.{◌≡◌, ◌∙◌}
use Prim.Native.Nat.{◌<◌}
use native.Mathlib.Omega.{arith}
use lib.IntN.{pos}
use lib.ListN.{length, replicate}
use borrow.Author.Rules.{rules}
use Rattle.std.proofs.lemmas.List.{get_or_append_left, length-take-le}
use Rattle.rows.proofs.vetted.column.Column.cells.Goals as goal

pub returns : goal.returns
returns c =
    let m = c.height-m in
    let long : length c.fill.new.entries ≡ m.result =
    c.fill.auto.entries ∙ length-take-le m.result (replicate 64 (pos 0)) m.ensures.few in
    λ j l o.
    let here : j < length c.fill.new.entries = omega (arith, long, m.ensures.all j l o) in
    get_or_append_left c.fill.new.entries _ (pos 0) j here ∙ (let w = c.fill.ensures.each j here in search rules)
