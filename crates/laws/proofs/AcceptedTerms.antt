-- The terms of an accepted table (SPECIFICATION, "The table", "What a call refuses") are sound and over the columns;
-- what else acceptance says goes by their kinds. Assumes nothing.
-- What a reader or a contract cites stands in specs/AcceptedTerms.
use Rattle.std.specs.Prelude.{◌≡◌, true, List, ℕ, ◌<◌, eqb}
use Rattle.std.proofs.Math.Path.{refl}
use Rattle.std.proofs.Common.{ap, arith, pow_mono}
use Rattle.std.proofs.lemmas.Bool.{false≢true}
use borrow.Author.Tests.{eq-eqb, lt-ltb, not-false}
use Rattle.model.specs.declared.{Record.Record, BaseTerm.BaseTerm, Pair.Pair, CompoundTerm.CompoundTerm}
use Rattle.model.specs.declared.BaseTerm.TheVariants.{Lowest, Highest, Around, Between, Pos, Neg, PosNeg, PosPos}
use Rattle.model.specs.declared.BaseTerm.TheVariants.{Explicit, Any}
use Rattle.model.specs.declared.Pair.TheVariants.{Pareto, Prior, Both}
use Rattle.model.specs.Record.{record_count, record_at, kind_at, p_at, q_at, is_term, roles_of, values_of}
use Rattle.model.specs.Term.{term_at, columns_of}
use Rattle.model.specs.Check.{fails_apart, top_of}
use Rattle.laws.specs.Bools.{and_i, or_l, or_r}
use Rattle.laws.specs.Members.{and-off}
use Rattle.laws.specs.Sound.{sound_base, fits, sound, within}
use Rattle.laws.specs.Columns.{within_more, columns-below}
use Rattle.laws.specs.Records.{kind_number, kind-of, joined-parts}
use Rattle.laws.specs.Accepted.{Accepted}
use Rattle.laws.specs.AcceptedTable.{accepted-table}
use Rattle.laws.specs.AcceptedValues.{values-unclashed, values-acyclic}
use Rattle.laws.specs.AcceptedKinds.{accepted-base, accepted-joined}
use Rattle.laws.specs.AcceptedKinds.{accepted-dual}
use Rattle.laws.specs.AcceptedTerms.{AcceptedTerm, by-parts-below, columns-before}

module _ (table : List ℕ) (columns : ℕ) (ok : Accepted table columns) where
  base-sound : (k column : ℕ) (b : BaseTerm) → record_at table k ≡ Record.Base column b
      → sound_base b (values_of table k (record_count table)) ≡ true
  unfolding sound_base kind_number
  base-sound k column Lowest e = refl
  base-sound k column Highest e = refl
  base-sound k column (Around wish) e = refl
  base-sound k column (Between low up) e = refl
  base-sound k column Pos e = refl
  base-sound k column Neg e = refl
  base-sound k column PosNeg e =
      values-unclashed table columns ok k
      (or_l _ (eq-eqb (kind_at table k) 7 (kind-of table k (Record.Base column PosNeg) e refl)))
  base-sound k column PosPos e =
      values-unclashed table columns ok k
      (or_r (eqb (kind_at table k) 7) (eq-eqb (kind_at table k) 8 (kind-of table k (Record.Base column PosPos) e refl)))
  base-sound k column Explicit e = values-acyclic table columns ok k (ap roles_of e)
  base-sound k column Any e = refl

  joined-fits : (k : ℕ) → k < record_count table → (op : Pair) (p q : ℕ)
      → record_at table k ≡ Record.Compound (CompoundTerm.Joined op p q)
      → fits op (columns_of (term_at table p)) (columns_of (term_at table q)) ≡ true
  unfolding fits fails_apart kind_number
  joined-fits k h Pareto p q e = refl
  joined-fits k h Prior p q e = refl
  joined-fits k h Both p q e =
      let w = joined-parts table k Both p q e in
      let both = eq-eqb (kind_at table k) 18 (kind-of table k (Record.Compound (CompoundTerm.Joined Both p q)) e refl) in
      let same = not-false _ (and-off (eqb (kind_at table k) 18) _ (ok.records k h).apart both) in
      rw (w.0, w.1, ← (columns-before table k (p_at table k)), ← (columns-before table k (q_at table k))) same

  abbrev Good : ℕ → Type 0
  Good k = (sound (term_at table k) ≡ true) × (within columns (term_at table k) ≡ true)

  one-good : (k : ℕ) → k < record_count table → ((j : ℕ) → j < k → is_term (record_at table j) ≡ true → Good j)
      → (r : Record) → record_at table k ≡ r → is_term r ≡ true → Good k
  unfolding sound within
  one-good k h ih (Record.Value a) e t = absurd (false≢true t)
  one-good k h ih (Record.Base column b) e t =
      let a = accepted-base table columns ok k h column b e in
      rw a.equation (base-sound k column b e, lt-ltb column columns a.below)
  one-good k h ih (Record.Compound (CompoundTerm.Joined op p q)) e t =
      let a = accepted-joined table columns ok k h op p q e in
      let l = ih p a.left a.left_term in
      let r = ih q a.right a.right_term in
      rw a.equation (and_i (joined-fits k h op p q e) (and_i l.0 r.0), and_i l.1 r.1)
  one-good k h ih (Record.Compound (CompoundTerm.Dual p)) e t =
      let a = accepted-dual table columns ok k h p e in rw a.equation (ih p a.part a.part_term)
  one-good k h ih Record.Unknown e t = absurd (false≢true t)

  -- What acceptance says of term record k.
  pub accepted-term : (k : ℕ) → k < record_count table → is_term (record_at table k) ≡ true → AcceptedTerm table columns k
  accepted-term k h t =
      let good = by-parts-below table Good (λ k h ih t. one-good k h ih (record_at table k) refl t) k h t in
      record {
        is_sound = good.0;
        is_within = good.1;
        mask = omega (
          arith,
          columns-below columns (term_at table k) good.1,
          pow_mono (accepted-table table columns ok).few_columns,
        );
        of_base = accepted-base table columns ok k h;
        of_joined = accepted-joined table columns ok k h;
        of_dual = accepted-dual table columns ok k h;
      }

  -- So it is sound over at most 8 columns, as the laws of terms ask.
  pub accepted-sound : (k : ℕ) → k < record_count table → is_term (record_at table k) ≡ true
      → (sound (term_at table k) ≡ true) × (within 8 (term_at table k) ≡ true)
  accepted-sound k h t =
      let a = accepted-term k h t in
      (a.is_sound, within_more columns 8 (accepted-table table columns ok).few_columns (term_at table k) a.is_within)

  -- All this of the top.
  pub accepted-top : AcceptedTerm table columns (top_of table)
  accepted-top = let t = accepted-table table columns ok in accepted-term (top_of table) t.top_below t.top
