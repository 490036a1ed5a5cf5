-- What both engines' ranks of rows ask, from what a call takes. Assumes nothing.
use Rattle.std.specs.Prelude.{◌≡◌, Bool, List, ℕ, ◌+◌, ◌*◌, ◌/◌, ◌<◌, ◌≤◌, ℤ, length}
use Rattle.std.proofs.Common.{mul-le-mul_right, suc-mul, arith}
use Rattle.laws.specs.Taken.{TakenTerm}
use Rattle.terms.specs.Prepared.{Numbers, RunEnds}
use Rattle.rows.specs.Values.{Room}
use Rattle.plan.specs.declared.vetted.exit_masks.{Exit.Exit}
use Rattle.plan.specs.Beneath.{Marked}
use Rattle.ranks.specs.Ranked.{Rankable}
use Rattle.selection.specs.Selected.{AskedRows, StrideFor}
use Rattle.selection.specs.Taken.{term-below}

-- A buffer that keeps its length keeps its room.
pub same-room : {n size old new : ℕ} → new ≡ old → Room n size old → Room n size new
same-room e r = rw e r

-- Room for the blocks of n rows is room for each.
pub room_for : (n stride size : ℕ) → (n + 63) / 64 * stride ≤ size → Room n stride size
room_for n stride size h =
    record {
      each = λ b l.
          let k : b < (n + 63) / 64 = omega (arith, l) in
          let m = mul-le-mul_right stride k in
          omega (arith, h, m, suc-mul b stride);
    }

-- Rows of that many blocks at most.
pub room-for-blocks : (n stride count size : ℕ) → n ≤ count * 64 → count * stride ≤ size → Room n stride size
room-for-blocks n stride count size h k =
    let b : (n + 63) / 64 ≤ count = omega (arith, h) in
    let m = mul-le-mul_right stride b in
    room_for n stride size (omega (arith, k, m))

-- There are at most 16 blocks of at most 128 records.
pub most-ranks : (n stride : ℕ) → n ≤ 1024 → stride ≤ 8192 → (n + 63) / 64 * stride ≤ 131072
most-ranks n stride h k =
    let b : (n + 63) / 64 ≤ 16 = omega (arith, h) in
    let m = mul-le-mul_right stride b in
    omega (arith, k, m)

-- The stride of the records up to the term.
pub stride-for : {table : List ℕ} {columns term : ℕ} → TakenTerm table columns term → StrideFor term (term * 64 + 64)
stride-for t = record { wide = omega arith; narrow = omega (arith, term-below t) }

-- What the rows' ranks ask, and what the values that a call hands down hold besides.
pub record RowsRankable (table : List ℕ) (numbers : List ℤ) (ends : List ℕ) (marks : List Bool) (term columns : ℕ)
    (rows : List ℤ) (n stride size : ℕ) : Type 0 where
  pub ranks : Rankable table ends term columns n stride size
  pub prepared : Numbers table numbers
  pub marked : length marks ≡ 128
  pub run : length rows ≡ n * columns
  pub narrow : stride ≤ 8192

module _ {table : List ℕ} {columns term : ℕ} {rows : List ℤ} {n stride : ℕ}
    (asked : AskedRows table columns term rows n) (strides : StrideFor term stride) where
  -- What the rows' ranks are made from.
  pub rankable : {numbers : List ℤ} {ends : List ℕ} {exits : List Exit} {marks : List Bool} {size : ℕ}
      → Numbers table numbers → RunEnds table ends → Marked table term exits marks → Room n stride size
      → RowsRankable table numbers ends marks term columns rows n stride size
  rankable a e m room =
      record {
        ranks = record { taken = asked.taken; runs = e; wide = strides.wide; room = room };
        prepared = a;
        marked = m.room;
        run = asked.run;
        narrow = strides.narrow;
      }
