-- The lanes that row i meets: those of the rows that are not gone, without its own. Assumes nothing.
use mathlib.Core.Path.{◌≡◌, refl, ◌∙◌}
use mathlib.Core.Logic.{⊎_elim}
use mathlib.Core.Bool.{Bool, true, false, ◌&&◌}
use mathlib.Core.List.{List}
use Prim.Native.Nat.{ℕ, ◌+◌, ◌*◌, ◌/◌, ◌%◌, ◌<◌, ◌≤◌}
use native.Mathlib.Omega.{arith}
use lib.Dec.{eqb}
use lib.IntN.{ℤ}
use lib.ListN.{length, set}
use lib.Seq.{get_or-set_same, get_or-set_other}
use borrow.Author.Tests.{eqb-true, eqb-false}
use Rattle.model.specs.Better.{equal_in}
use Rattle.model.specs.Query.{row_at}
use Rattle.laws.specs.Bools.{on-or-off}
use Rattle.lanes.specs.Lit.{free, lit}
use Rattle.blocks.specs.Alive.{Alive}
use Rattle.blocks.specs.Rivals.{rival, LeftOut}

own-off : (a c : Bool) → false ≡ ((a && false) && c)
own-off true c = refl
own-off false c = refl

other-on : (a c : Bool) → (a && c) ≡ ((a && true) && c)
other-on true c = refl
other-on false c = refl

module _ {group columns : ℕ} {rows : List ℤ} {n i b : ℕ} (gone : List ℕ) {old new : List ℕ} (row : i < n) where
  on : Alive group columns rows n i b (free gone (b * 64)) old → LeftOut (b * 64) i old new → (j : ℕ) → j < 64 → b * 64 + j < n
      → lit new j ≡ (rival gone (b * 64) i j && equal_in group (row_at columns rows i) (row_at columns rows (b * 64 + j)))
  unfolding rival
  on alive left j l h =
      let same = equal_in group (row_at columns rows i) (row_at columns rows (b * 64 + j)) in
      ⊎_elim
      (λ t. rw t (left.own j l (eqb-true (b * 64 + j) i t) ∙ own-off (free gone (b * 64) j) same))
      (λ t. rw t (left.others j l (eqb-false (b * 64 + j) i t) ∙ alive.on j l h ∙ other-on (free gone (b * 64) j) same))
      (on-or-off (eqb (b * 64 + j) i))

  pub rivals_alive : Alive group columns rows n i b (free gone (b * 64)) old → LeftOut (b * 64) i old new
      → Alive group columns rows n i b (rival gone (b * 64) i) new
  rivals_alive alive left =
      record {
        on = on alive left;
        off = λ j l h. left.others j l (λ e. omega (arith, e, h, row)) ∙ alive.off j l h;
      }

-- The lane of row i is put out.
pub left_own : (i b : ℕ) (live : List ℕ) → 64 ≤ length live → i / 64 ≡ b → LeftOut (b * 64) i live (set live (i % 64) 0)
unfolding lit
left_own i b live room e =
    record {
      own = λ j l q. let p : j ≡ i % 64 = omega (arith, l, q, e) in
          rw p (rw (get_or-set_same live (i % 64) 0 0 (omega (arith, room))));
      others = λ j l q. rw (get_or-set_other live (i % 64) j 0 0 (λ p. q (omega (arith, p, e))));
    }
