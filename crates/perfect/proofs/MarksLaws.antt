-- A record's mark from its parts' marks is the perfect mark of its term. Assumes nothing.
use mathlib.Core.Path.{◌≡◌, sym, ◌∙◌, ap}
use mathlib.Core.Bool.{Bool, true, false, not, false≢true}
use mathlib.Core.List.{List}
use Prim.Native.Nat.{ℕ, ◌+◌, ◌<◌, ◌≤◌}
use native.Mathlib.Omega.{arith}
use lib.ListN.{length, get_or, set}
use Rattle.model.specs.declared.{Record.Record, BaseTerm.BaseTerm, CompoundTerm.CompoundTerm}
use Rattle.model.specs.Bytes.{byte_at, Value32}
use Rattle.model.specs.Record.{record_count, record_at, is_term, values_of}
use Rattle.model.specs.Term.{term_at}
use Rattle.model.specs.Better.{Row, cell}
use Rattle.model.specs.Perfect.{perfect}
use Rattle.laws.specs.Accepted.{Accepted}
use Rattle.laws.specs.AcceptedKinds.{accepted-joined, accepted-dual}
use Rattle.laws.specs.AcceptedMarks.{joined-perfect, dual-perfect}
use Rattle.laws.proofs.AcceptedMarks.{base-perfect, base-odd}
use Rattle.laws.specs.AcceptedTable.{accepted-table}
use Rattle.laws.specs.Runs.{values_between}
use Rattle.laws.specs.Fill.{fill_more}
use Rattle.terms.specs.Prepared.{Run, RunEnds}
use Rattle.perfect.specs.Base.{base_mark}
use Rattle.perfect.specs.Marks.{record_mark, CellFits, Asked}

-- The marks of the terms below record k.
abbrev pub Below : List ℕ → Row → Bool → ℕ → (ℕ → Bool) → Type 0
Below table row odd k mark =
    (i : ℕ) → i < k → is_term (record_at table i) ≡ true → mark i ≡ perfect odd (term_at table i) row

module _ (table : List ℕ) (columns : ℕ) (ok : Accepted table columns) (bytes : (i : ℕ) → byte_at table i < 256)
    (row : Row) (k : ℕ) (below : k < record_count table) where
  base-is : (odd : Bool) (column : ℕ) (b : BaseTerm) → record_at table k ≡ Record.Base column b
      → Value32 (cell row column)
      → base_mark odd b (values_of table k (record_count table)) (cell row column) ≡ perfect odd (term_at table k) row
  base-is false column b e v = sym (base-perfect table columns ok k below row column b e bytes v)
  base-is true column b e v = sym (base-odd table columns ok k below row column b e bytes v)

  module _ (odd : Bool) (own other : ℕ → Bool) (these : Below table row odd k own)
      (those : Below table row (not odd) k other) where
    -- It holds of every kind of record that is a term.
    pub record_is : (r : Record) → record_at table k ≡ r → is_term r ≡ true → CellFits r row
        → record_mark odd r (values_of table k (record_count table)) row own other ≡ perfect odd (term_at table k) row
    record_is (Record.Value a) e t v = absurd (false≢true t)
    record_is (Record.Base column b) e t v = base-is odd column b e v
    record_is (Record.Compound (CompoundTerm.Joined op p q)) e t v =
        let a = accepted-joined table columns ok k below op p q e in
        rw (these p a.left a.left_term, these q a.right a.right_term)
        (sym (joined-perfect table columns ok k below row odd op p q e))
    record_is (Record.Compound (CompoundTerm.Dual p)) e t v =
        let a = accepted-dual table columns ok k below p e in
        those p a.part a.part_term ∙ sym (dual-perfect table columns ok k below row odd p e)
    record_is Record.Unknown e t v = absurd (false≢true t)

-- ---- the loop over the records

-- A term asked for is a record below 128.
pub asked-few : (table : List ℕ) (term : ℕ) → Asked table term → term < 128
asked-few table term a =
    omega (arith, a.taken.below, (accepted-table table a.columns a.taken.is_accepted).few_records)

module _ (table : List ℕ) (ends : List ℕ) (term : ℕ) (a : Asked table term) (run : RunEnds table ends) (k : ℕ) (h : k ≤ term) (r : Record)
    (e : r ≡ record_at table k) where
  low : k < record_count table
  low = omega (arith, a.taken.below)

  here : is_term r ≡ true → Run table k (get_or ends k 0)
  here t = run.each k low (rw e at t)

  module _ (bytes : (i : ℕ) → byte_at table i < 256) (row : Row) (fits : CellFits r row)
      (odd : Bool) (own other : List Bool) (wide : k < length own)
      (these : Below table row odd k (λ i. get_or own i false))
      (those : Below table row (not odd) k (λ i. get_or other i false)) (m : Bool)
      (is : m
      ≡ record_mark odd r (values_between table k (get_or ends k 0)) row (λ i. get_or own i false) (λ i. get_or other i false))
    where
      mark-here : is_term (record_at table k) ≡ true → m ≡ perfect odd (term_at table k) row
      mark-here t =
          is
          ∙ ap (λ l. record_mark odd r l row (λ i. get_or own i false) (λ i. get_or other i false)) (sym (here (rw e t)).all)
          ∙ record_is table a.columns a.taken.is_accepted bytes row k low odd (λ i. get_or own i false)
          (λ i. get_or other i false) these those r (sym e) (rw e t) fits

      -- Its mark is stored with the others.
      pub marks-more : Below table row odd (k + 1) (λ i. get_or (set own k m) i false)
      marks-more =
          fill_more false (λ i v. is_term (record_at table i) ≡ true → v ≡ perfect odd (term_at table i) row) own k m wide these
          mark-here
