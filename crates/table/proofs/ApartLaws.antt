-- The columns of a BOTH's two parts, and its 13 APART by their masks. Assumes nothing.
use mathlib.Core.Path.{◌≡◌, refl, ◌∙◌, ap}
use mathlib.Core.Bool.{Bool, true, false, not, ◌&&◌, ◌||◌, true≢false}
use mathlib.Core.List.{List, [], ◌∷◌}
use Prim.Native.Nat.{ℕ, ◌<◌}
use native.Mathlib.Omega.{arith}
use lib.Dec.{eqb, ltb}
use borrow.Author.Tests.{ltb-true}
use Rattle.model.specs.declared.CompoundTerm.TheVariants.{Joined}
use Rattle.model.specs.declared.Pair.TheVariants.{Both}
use Rattle.model.specs.declared.Record.TheVariants.{Compound}
use Rattle.model.specs.Search.{any_in}
use Rattle.model.specs.Record.{kind_at, p_at, q_at, record_of, record_at, is_term}
use Rattle.model.specs.Term.{columns_of}
use Rattle.model.specs.Check.{fails_part, fails_apart, columns_before}
use Rattle.laws.specs.Bools.{and_l}
use Rattle.laws.specs.Terms.{terms-below}
use Rattle.terms.specs.Columns.{mask_below, Narrow}
use Rattle.terms.proofs.MaskLoop.{masks-columns}
use Rattle.table.specs.Judging.{Fielded}
use Rattle.table.proofs.Fielded.{column-more, rest_of, below}

both_hold : (a b : Bool) → (not a || (not b || false)) ≡ false → (a ≡ true) × (b ≡ true)
both_hold true true e = (refl, refl)
both_hold true false e = absurd (true≢false e)
both_hold false b e = absurd (true≢false e)

module _ (table : List ℕ) (columns k : ℕ) (f : Fielded table columns k) where
  -- The records below read columns below 8.
  pub narrow : Narrow table k
  narrow =
      record {
        most = omega (arith, f.reached.few);
        each = λ i h. column-more columns f.reached.narrow (record_at table i) (below table columns k f i h).column;
      }

  both-record : kind_at table k ≡ 18 → record_at table k ≡ Compound (Joined Both (p_at table k) (q_at table k))
  unfolding record_at record_of
  both-record e = rw e

  parts_below : (p q : ℕ) → any_in (p ∷ q ∷ []) (λ part. not (ltb part k && is_term (record_at table part))) ≡ false → (p < k) × (q < k)
  unfolding any_in
  parts_below p q e =
      let h = both_hold (ltb p k && is_term (record_at table p)) (ltb q k && is_term (record_at table q)) e in
      (ltb-true p k (and_l _ (is_term (record_at table p)) h.0), ltb-true q k (and_l _ (is_term (record_at table q)) h.1))

  pub both_below : kind_at table k ≡ 18 → (p_at table k < k) × (q_at table k < k)
  unfolding fails_part
  both_below e = parts_below (p_at table k) (q_at table k) (rw (both-record e) at (rest_of table columns k f).0)

  -- APART compares the masks of the two parts.
  mask_is : (part : ℕ) → part < k → mask_below table k part ≡ columns_before table k part
  unfolding columns_before
  mask_is part h = masks-columns table k k part ∙ ap columns_of (terms-below table k k part h)

  pub apart-is : kind_at table k ≡ 18 → not (eqb (mask_below table k (p_at table k)) (mask_below table k (q_at table k))) ≡ fails_apart table k
  unfolding fails_apart
  apart-is e =
      let h = both_below e in
      rw (e, mask_is (p_at table k) h.0, mask_is (q_at table k) h.1)

pub apart_none : (table : List ℕ) (k : ℕ) → eqb (kind_at table k) 18 ≡ false → fails_apart table k ≡ false
unfolding fails_apart
apart_none table k e = rw e
