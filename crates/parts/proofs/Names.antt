-- One block of naming, over any relation: a kept row is named for the rows that it beats and that have no name, and a row that
-- is gone for none. Assumes nothing.
use mathlib.Core.Path.{◌≡◌, refl, sym, ◌∙◌}
use mathlib.Core.Logic.{inl, inr, ⊎_elim}
use mathlib.Core.Bool.{Bool, true, false, cond, ◌&&◌}
use mathlib.Core.List.{List}
use Prim.Native.Nat.{ℕ, ◌+◌, ◌<◌, ◌≤◌}
use native.Mathlib.Omega.{arith}
use lib.Dec.{eqb}
use lib.ListN.{get_or}
use borrow.Author.Tests.{ne_eqb}
use Rattle.model.specs.Query.{kept}
use Rattle.laws.specs.Bools.{on-or-off}
use Rattle.laws.specs.Order.{Rel}
use Rattle.laws.specs.Elimination.{Settled}
use Rattle.laws.specs.Gone.{dropped-of}
use Rattle.laws.specs.Wrote.{Wrote}
use Rattle.lanes.specs.Lit.{pending, hit}
use Rattle.lanes.specs.Marks.{name_lane}
use Rattle.blocks.specs.Alive.{Beyond}
use Rattle.blocks.specs.Hits.{Hits, Dark, in_block}
use Rattle.laws.specs.Named.{Right, Named}
use Rattle.parts.specs.Naming.{Naming}
use Rattle.parts.specs.Lowest.{named-next, named-dropped}

-- A row that is gone names none.
pub named_gone : (beats : Rel ℕ) (n i : ℕ) (gone by : List ℕ) → Settled beats n gone → i < n → (get_or gone i 0 ≡ 0 → ⊥)
    → Named beats n i by → Named beats n (i + 1) by
named_gone beats n i gone by settled l e r =
    let k = dropped-of beats n i gone settled l e in
    record {
      each = λ j h d. ⊎_elim (λ q. inl (q ∙ sym (named-dropped beats n i j k))) (λ f. inr f) (r.each j h d);
    }

-- ---- one lane

pending-gone : (gone by : List ℕ) (lo j : ℕ) → eqb (get_or gone (lo + j) 0) 0 ≡ false
    → pending gone by lo j ≡ eqb (get_or by (lo + j) 0) 1024
unfolding pending
pending-gone gone by lo j e = rw e

name-lane : (by : List ℕ) (lo : ℕ) (live codes : List ℕ) (top i j : ℕ)
    → name_lane by lo live codes top i j ≡ cond (hit live codes top 1 j) i (get_or by (lo + j) 0)
unfolding name_lane
name-lane by lo live codes top i j = refl

-- ---- one block, the first row of which is row lo

module _ (beats : Rel ℕ) (n i lo : ℕ) (gone by : List ℕ) (settled : Settled beats n gone) (k : kept n beats i ≡ true)
    (few : i < 1024) (naming : Naming beats n i lo by) where
  -- What lane j's entry is to be.
  lane-named : (j : ℕ) (h : Bool) → lo + j < n → kept n beats (lo + j) ≡ false
      → h ≡ (pending gone by lo j && beats i (lo + j))
      → Right beats n (i + 1) (lo + j) (cond h i (get_or by (lo + j) 0))
  lane-named j h l d e =
      let here = pending-gone gone by lo j (settled.each (lo + j) l ∙ d) in
      ⊎_elim
      (λ r. inl (rw (e, here) (named-next beats n i (lo + j) k few r)))
      (λ f. let off : h ≡ false =
      e ∙ rw (here, ne_eqb (get_or by (lo + j) 0) 1024 (λ q. omega (arith, f.0, q))) in
      rw off (inr f))
      (naming.left (lo + j) (omega arith) l d)

  -- No row of the block is without a name and beaten by row i.
  pub names-none : Dark beats n i lo (pending gone by lo) → Naming beats n i (lo + 64) by
  names-none dark =
      record {
        done = λ x p l d. in_block x lo
            (λ u. naming.done x u l d)
            (λ j u v. let f : lo + j < n = omega arith in
            let c : kept n beats (lo + j) ≡ false = rw v at d in
            rw v (lane-named j false f c (sym (quiet j u f))))
            (λ u. absurd (omega arith));
        left = λ x p l d. naming.left x (omega arith) l d;
      }
    where
      quiet : (j : ℕ) → j < 64 → lo + j < n → (pending gone by lo j && beats i (lo + j)) ≡ false
      quiet j l h =
          ⊎_elim
          (λ (p : pending gone by lo j ≡ true). rw (p, (dark.apart j l h p).0))
          (λ (p : pending gone by lo j ≡ false). rw p)
          (on-or-off (pending gone by lo j))

  module _ (live codes new : List ℕ) (top : ℕ) (hits : Hits beats n i lo (pending gone by lo) live codes top)
      (wrote : Wrote 0 (name_lane by lo live codes top i) lo 64 by new) where
    -- Row i is named for those that are, and for no other.
    pub names-some : Naming beats n i (lo + 64) new
    names-some =
        record {
          done = λ x p l d. in_block x lo
              (λ u. rw (wrote.below x u) (naming.done x u l d))
              (λ j u v. let f : lo + j < n = omega arith in
              let c : kept n beats (lo + j) ≡ false = rw v at d in
              rw v (rw (wrote.made j u ∙ name-lane by lo live codes top i j)
              (lane-named j (hit live codes top 1 j) f c (hits.one j u f))))
              (λ u. absurd (omega arith));
          left = λ x p l d. rw (wrote.above x p) (naming.left x (omega arith) l d);
        }

    -- Lanes that are no rows need no name still.
    pub beyond-some : Beyond n by → Beyond n new
    beyond-some b =
        record {
          each = λ x p q z. in_block x lo
              (λ u. b.each x p q (sym (wrote.below x u) ∙ z))
              (λ j u v. let f : get_or new (lo + j) 0 ≡ 1024 = rw v at z in
              b.each (lo + j) (omega arith) (omega arith) (sym (same j u (omega arith)) ∙ f))
              (λ u. b.each x p q (sym (wrote.above x u) ∙ z));
        }
      where
        same : (j : ℕ) → j < 64 → n ≤ lo + j → get_or new (lo + j) 0 ≡ get_or by (lo + j) 0
        same j l h = wrote.made j l ∙ name-lane by lo live codes top i j ∙ rw (hits.off 1 j l h)
