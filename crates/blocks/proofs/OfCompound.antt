-- The codes of a compound, from those of its parts, are those of its term. Assumes nothing.
use mathlib.Core.Path.{◌≡◌, ◌∙◌}
use mathlib.Core.Bool.{Bool}
use mathlib.Core.List.{List}
use Prim.Native.Nat.{ℕ, ◌+◌, ◌*◌, ◌<◌}
use native.Mathlib.Omega.{arith}
use lib.IntN.{ℤ}
use Rattle.model.specs.declared.{CompoundTerm.CompoundTerm}
use Rattle.model.specs.declared.CompoundTerm.TheVariants.{Joined, Dual}
use Rattle.model.specs.declared.Record.TheVariants.{Compound}
use Rattle.model.specs.Record.{record_at}
use Rattle.model.specs.Term.{term_at}
use Rattle.model.specs.Query.{row_at}
use Rattle.laws.specs.Codes.{code}
use Rattle.laws.specs.AcceptedKinds.{accepted-joined, accepted-dual}
use Rattle.plan.specs.declared.vetted.exit_masks.{Exit.Exit}
use Rattle.plan.specs.Beneath.{OfParts, parts_low}
use Rattle.plan.specs.Codes.{joined-code-is, dual-code-is}
use Rattle.laws.specs.Wrote.{Wrote}
use Rattle.lanes.specs.Compound.{joined_lane, turned_lane, compound_lane}
use Rattle.blocks.specs.Ready.{Ready, AtRecord, Coded}
use Rattle.blocks.specs.Coded.{ok, below, coded-more}

module _ {table : List ℕ} {numbers : List ℤ} {ends : List ℕ} {reach : List (List Bool)} {marks : List Bool}
    {exits : List Exit} {term columns : ℕ} {rows : List ℤ} {n stride : ℕ} {ranks values : List ℤ}
    (ready : Ready table numbers ends reach marks exits term columns rows n stride ranks values)
    {i b k : ℕ} (at : AtRecord marks term n i b k) where
  pub parts_below : {c : CompoundTerm} → record_at table k ≡ Compound c → OfParts (λ p. p < k) c
  parts_below {c} is = (parts_low table columns k (ok ready) (below ready at)).each k c (omega arith) is

  -- The parts' codes are right, since they stand below and are marked.
  compound-right : (c : CompoundTerm) → record_at table k ≡ Compound c → (old : List ℕ)
      → Coded table marks columns rows n i b k old → (j : ℕ) → j < 64 → b * 64 + j < n
      → compound_lane 64 c old j ≡ code (term_at table k) (row_at columns rows i) (row_at columns rows (b * 64 + j))
  unfolding joined_lane turned_lane
  compound-right (Joined op p q) is old c j small row =
      let a = accepted-joined table columns (ok ready) k (below ready at) op p q is in
      let m = ready.marked.parts k (Joined op p q) (omega arith) at.most at.marked is in
      joined-code-is (ok ready) (below ready at) is (row_at columns rows i) (row_at columns rows (b * 64 + j))
      (c.each p j a.left m.0 a.left_term small row) (c.each q j a.right m.1 a.right_term small row)
  compound-right (Dual p) is old c j small row =
      let a = accepted-dual table columns (ok ready) k (below ready at) p is in
      let m = ready.marked.parts k (Dual p) (omega arith) at.most at.marked is in
      dual-code-is (ok ready) (below ready at) is (row_at columns rows i) (row_at columns rows (b * 64 + j))
      (c.each p j a.part m a.part_term small row)

  -- One compound more.
  pub compound_coded : {c : CompoundTerm} → record_at table k ≡ Compound c → {old new : List ℕ}
      → Coded table marks columns rows n i b k old → Wrote 0 (compound_lane 64 c old) (k * 64) 64 old new
      → Coded table marks columns rows n i b (k + 1) new
  compound_coded {c} is {old} r w =
      coded-more r w.below (λ m t j small row. w.made j small ∙ compound-right c is old r j small row)
