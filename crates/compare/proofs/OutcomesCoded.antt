-- The codes of the records up to the asked term, as one loop upward finds them, are those of their terms. Assumes nothing.
use mathlib.Core.Path.{◌≡◌, refl, sym, ap, ◌∙◌}
use mathlib.Core.Bool.{Bool, true, false≢true}
use mathlib.Core.List.{List}
use Prim.Native.Nat.{ℕ, ◌+◌, ◌<◌, ◌≤◌}
use native.Mathlib.Omega.{arith}
use lib.IntN.{ℤ}
use lib.ListN.{length, get_or, set}
use Rattle.model.specs.declared.{BaseTerm.BaseTerm, CompoundTerm.CompoundTerm, Record.Record}
use Rattle.model.specs.declared.CompoundTerm.TheVariants.{Joined, Dual}
use Rattle.model.specs.declared.Record.TheVariants.{Base, Compound, Unknown}
use Rattle.model.specs.Record.{record_count, record_at, is_term}
use Rattle.model.specs.Term.{term_at}
use Rattle.model.specs.Better.{Row}
use Rattle.laws.specs.Sound.{sound_base, sound}
use Rattle.laws.specs.Fill.{fill_more}
use Rattle.laws.specs.Runs.{values_between}
use Rattle.laws.specs.Outcome.{outcome-base}
use Rattle.laws.specs.Codes.{code_of, code}
use Rattle.laws.proofs.Codes.{pair_code, dual-code}
use Rattle.laws.specs.Accepted.{Accepted}
use Rattle.laws.specs.AcceptedTable.{accepted-table}
use Rattle.laws.specs.AcceptedKinds.{AcceptedBase, accepted-base, accepted-joined, accepted-dual}
use Rattle.laws.proofs.AcceptedTerms.{accepted-sound}
use Rattle.terms.specs.Prepared.{Run}
use Rattle.laws.specs.ValueCodes.{tests_code, value_code}
use Rattle.compare.specs.Rows.{Asked, Ready, PartsBelow, RecordReady, record_code}

-- The asked term is one of at most 128 records.
pub term-below : (table : List ℕ) (term : ℕ) (x y : Row) → Asked table term x y → term < 128
term-below table term x y a =
    omega (arith, a.taken.below, (accepted-table table (length x) a.taken.is_accepted).few_records)

module _ (table : List ℕ) (numbers : List ℤ) (ends : List ℕ) (reach : List (List Bool)) (term : ℕ) (x y : Row)
    (ready : Ready table numbers ends reach term x y) (k : ℕ) (h : k ≤ term) where
  abbrev columns : ℕ
  columns = length x

  ok : Accepted table columns
  ok = ready.asked.taken.is_accepted

  below : k < record_count table
  below = omega (arith, ready.asked.taken.below)

  run : is_term (record_at table k) ≡ true → Run table k (get_or ends k 0)
  run t = ready.runs.each k below t

  of-base : (column : ℕ) (b : BaseTerm) → record_at table k ≡ Base column b → AcceptedBase table columns k column b
  of-base column b e = accepted-base table columns ok k below column b e

  base-sound : (column : ℕ) (b : BaseTerm) → record_at table k ≡ Base column b
      → sound_base b (values_between table k (get_or ends k 0)) ≡ true
  unfolding sound
  base-sound column b e =
      let t = ap is_term e in
      rw ((of-base column b e).equation, (run t).all) at (accepted-sound table columns ok k below t).0

  parts_below : (c : CompoundTerm) → record_at table k ≡ Compound c → PartsBelow 128 c
  parts_below (Joined op p q) e =
      let a = accepted-joined table columns ok k below op p q e in
      let few = (accepted-table table columns ok).few_records in
      (omega (arith, below, few, a.left), omega (arith, below, few, a.right))
  parts_below (Dual p) e =
      omega (
        arith,
        below,
        (accepted-table table columns ok).few_records,
        (accepted-dual table columns ok k below p e).part,
      )

  -- What the code of a record asks for holds up to the asked term.
  pub record-ready : RecordReady table numbers ends reach k x y
  record-ready =
      record {
        below = omega (arith, below, (accepted-table table columns ok).few_records);
        of_base = λ column b e. (
          record {
            values = (run (ap is_term e)).values;
            prepared = ready.prepared;
            is_sound = base-sound column b e;
            reached = λ q. ready.reached.each k column below (rw q at e);
          },
          (of-base column b e).below,
          rw ready.asked.same_length (of-base column b e).below,
        );
        of_compound = parts_below;
      }

  module _ (codes : List ℕ)
      (right : (i : ℕ) → i < k → is_term (record_at table i) ≡ true → get_or codes i 0 ≡ code (term_at table i) x y) where
    by_kind : (r : Record) → record_at table k ≡ r → is_term r ≡ true
        → record_code r (values_between table k (get_or ends k 0)) (λ i. get_or codes i 0) x y ≡ code (term_at table k) x y
    unfolding value_code tests_code
    by_kind (Record.Value a) e t = absurd (false≢true t)
    by_kind (Base column b) e t =
        let a = of-base column b e in
        let w : column < 8 = omega (arith, a.below, (accepted-table table columns ok).few_columns) in
        rw (a.equation, (run (ap is_term e)).all)
        (sym (ap code_of (outcome-base column b (values_between table k (get_or ends k 0)) w x y)))
    by_kind (Compound (Joined op p q)) e t =
        let a = accepted-joined table columns ok k below op p q e in
        let s = accepted-sound table columns ok k below (ap is_term e) in
        rw (right p a.left a.left_term, right q a.right a.right_term, a.equation)
        (sym (pair_code op (term_at table p) (term_at table q) (rw a.equation at s.0) (rw a.equation at s.1) x y))
    by_kind (Compound (Dual p)) e t =
        let a = accepted-dual table columns ok k below p e in
        let s = accepted-sound table columns ok p (omega (arith, below, a.part)) a.part_term in
        rw (right p a.part a.part_term, a.equation) (sym (dual-code (term_at table p) s.0 s.1 x y))
    by_kind Unknown e t = absurd (false≢true t)

    -- A term record's code from those of the records below is that of its term.
    code-next : is_term (record_at table k) ≡ true
        → record_code (record_at table k) (values_between table k (get_or ends k 0)) (λ i. get_or codes i 0) x y
        ≡ code (term_at table k) x y
    code-next t = by_kind (record_at table k) refl t

    -- So the array with that code more holds the codes of the term records up to k.
    pub codes-more : (m : ℕ) → k < length codes
        → m ≡ record_code (record_at table k) (values_between table k (get_or ends k 0)) (λ i. get_or codes i 0) x y
        → (i : ℕ) → i < k + 1 → is_term (record_at table i) ≡ true → get_or (set codes k m) i 0 ≡ code (term_at table i) x y
    codes-more m l is =
        fill_more 0 (λ i v. is_term (record_at table i) ≡ true → v ≡ code (term_at table i) x y) codes k m l right
        (λ t. is ∙ code-next t)
