-- What the comparison asks is what the vetting shows. Assumes nothing.
use mathlib.Core.Path.{◌≡◌, sym, ◌∙◌}
use mathlib.Core.Bool.{◌||◌}
use mathlib.Core.List.{List}
use Prim.Native.Nat.{ℕ}
use lib.Dec.{eqb}
use lib.ListN.{length}
use borrow.Author.Tests.{eqb-true, not-false}
use Rattle.std.specs.Prelude.{Ok}
use Rattle.model.specs.Better.{Row}
use Rattle.model.specs.Compare.{fails_row, term_verdict}
use Rattle.laws.specs.Members.{or_off}
use Rattle.laws.specs.Taken.{term-gives}
use Rattle.compare.specs.Rows.{Asked}

-- What the vetting shows: the number given is a term record of an accepted table, and both rows fit.
pub asked_of : (table : List ℕ) (columns term : ℕ) (x y : Row)
    → term_verdict table columns (fails_row columns x || fails_row columns y) term ≡ Ok tt → Asked table term x y
unfolding fails_row
asked_of table columns term x y e =
    let t = term-gives table columns (fails_row columns x || fails_row columns y) term e in
    let f = or_off (fails_row columns x) (fails_row columns y) t.1 in
    let first : length x ≡ columns = eqb-true (length x) columns (not-false (eqb (length x) columns) f.0) in
    let second : length y ≡ columns = eqb-true (length y) columns (not-false (eqb (length y) columns) f.1) in
    record { taken = rw first t.0; same_length = second ∙ sym first }
