-- The codes of a base record are those of its term. Assumes nothing.
use mathlib.Core.Path.{◌≡◌, ◌∙◌, ap}
use mathlib.Core.Bool.{Bool}
use mathlib.Core.List.{List}
use Prim.Native.Nat.{ℕ, ◌+◌, ◌*◌, ◌/◌, ◌%◌, ◌<◌, ◌≤◌}
use native.Mathlib.Omega.{arith}
use lib.IntN.{ℤ, pos}
use lib.ListN.{get_or, length}
use Rattle.model.specs.declared.{BaseTerm.BaseTerm}
use Rattle.model.specs.declared.Record.TheVariants.{Base}
use Rattle.model.specs.Record.{record_at, is_term}
use Rattle.model.specs.Better.{cell}
use Rattle.model.specs.Query.{row_at}
use Rattle.terms.specs.Prepared.{Run}
use Rattle.plan.specs.declared.vetted.exit_masks.{Exit.Exit}
use Rattle.plan.specs.Codes.{of-base, column-below, base-sound, base-code-is}
use Rattle.ranks.specs.Rank.{RankAt}
use Rattle.blocks.specs.Base.{BaseAsked, BaseCoded}
use Rattle.blocks.specs.Ready.{Ready, AtRecord, Coded}
use Rattle.blocks.specs.Coded.{ok, below, coded-more}

module _ {table : List ℕ} {numbers : List ℤ} {ends : List ℕ} {reach : List (List Bool)} {marks : List Bool}
    {exits : List Exit} {term columns : ℕ} {rows : List ℤ} {n stride : ℕ} {ranks values : List ℤ}
    (ready : Ready table numbers ends reach marks exits term columns rows n stride ranks values)
    {i b k : ℕ} (at : AtRecord marks term n i b k)
    {column : ℕ} {t : BaseTerm} (is : record_at table k ≡ Base column t) where
  pub run : Run table k (get_or ends k 0)
  run = ready.runs.each k (below ready at) (ap is_term is)

  -- The value that lane j of block c has,
  value-is : (c j : ℕ) → j < 64 → c * 64 + j < n
      → get_or values (c * 512 + column * 64 + j) (pos 0) ≡ cell (row_at columns rows (c * 64 + j)) column
  value-is c j small row = ready.valued.each c j column small row (of-base (ok ready) (below ready at) is).below

  -- and its rank.
  rank-of : (c j : ℕ) → j < 64 → c * 64 + j < n
      → RankAt table k (get_or ends k 0) t (get_or values (c * 512 + column * 64 + j) (pos 0))
      (get_or ranks (c * stride + k * 64 + j) (pos 0))
  rank-of c j small row =
      rw (value-is c j small row)
      (ready.ranked.each c j k column t small row (omega (arith, at.most)) at.marked is)

  -- Row i is lane i % 64 of block i / 64.
  pub base-asked : BaseAsked table reach k (get_or ends k 0) t
      (get_or ranks (i / 64 * stride + k * 64 + i % 64) (pos 0)) (get_or values (i / 64 * 512 + column * 64 + i % 64) (pos 0))
  base-asked =
      record {
        is_sound = base-sound (ok ready) (below ready at) is run;
        reached = λ q. ready.reached.each k column (below ready at) (rw q at is);
        own = rank-of (i / 64) (i % 64) (omega arith) (omega (arith, at.row));
      }

  own_value : get_or values (i / 64 * 512 + column * 64 + i % 64) (pos 0) ≡ cell (row_at columns rows i) column
  own_value =
      let q : i / 64 * 64 + i % 64 ≡ i = omega arith in
      rw q at (value-is (i / 64) (i % 64) (omega arith) (omega (arith, at.row)))

  -- Block b's values stand in the buffer.
  pub values-end : b * 512 + column * 64 + 64 ≤ length values
  values-end = omega (arith, ready.value_room.each b at.block, column-below (ok ready) (below ready at) is)

  -- One base record more.
  pub base-coded : {old new : List ℕ} → Coded table marks columns rows n i b k old
      → BaseCoded table k (get_or ends k 0) t ranks (b * stride + k * 64) values (b * 512 + column * 64)
      (get_or values (i / 64 * 512 + column * 64 + i % 64) (pos 0)) old new
      → Coded table marks columns rows n i b (k + 1) new
  base-coded c w =
      coded-more c w.below
      (λ m u j small row.
      w.made j small (rank-of b j small row)
      ∙ rw (own_value, value-is b j small row)
      (base-code-is (ok ready) (below ready at) is run (row_at columns rows i) (row_at columns rows (b * 64 + j))))
