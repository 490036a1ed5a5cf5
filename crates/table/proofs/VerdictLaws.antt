-- The whole table: what WIDTH and LENGTH leave, the order of the refusals, and what the summary rests on. Assumes nothing.
use mathlib.Core.Path.{◌≡◌, refl, sym, ◌∙◌, ap}
use mathlib.Core.Bool.{Bool, false, not, ◌||◌}
use mathlib.Core.List.{List}
use Prim.Native.Nat.{ℕ, ◌/◌, ◌%◌, ◌<◌, ◌≤◌}
use native.Mathlib.Omega.{arith}
use lib.Dec.{eqb, leb, ltb}
use lib.ListN.{length}
use borrow.Author.Tests.{leb-true, ltb-false, lt-ltb, not-false}
use Rattle.std.specs.Prelude.{Ok, Err}
use Rattle.model.specs.declared.Refusal.{Refusal}
use Rattle.model.specs.Record.{record_count, record_at}
use Rattle.model.specs.Term.{term_at, columns_of}
use Rattle.model.specs.Replies.{refusal}
use Rattle.model.specs.Check.{refuse_if, ◌then◌, each_below, judge, verdict_by, table_verdict, fails_width, fails_length}
use Rattle.model.specs.Check.{fails_loose, top_of}
use Rattle.laws.specs.Bools.{and_r}
use Rattle.laws.specs.Members.{or_off}
use Rattle.laws.specs.Verdicts.{each_same, each_first, then_next, then-first}
use Rattle.laws.specs.Accepted.{Accepted, accepted-gives}
use Rattle.laws.specs.AcceptedTable.{accepted-table}
use Rattle.laws.specs.Terms.{terms-below}
use Rattle.terms.specs.Columns.{mask_below}
use Rattle.terms.proofs.MaskLoop.{masks-columns}
use Rattle.table.specs.Carried.{Carried}
use Rattle.table.proofs.Fielded.{column-more}
use Rattle.table.specs.Verdict.{loose_in, loose_by, records_verdict, Summed}

pub width-ok : (columns : ℕ) → fails_width columns ≡ false → columns ≤ 8
unfolding fails_width
width-ok columns h = leb-true columns 8 (and_r (leb 1 columns) (leb columns 8) (not-false _ h))

pub length-ok : (table : List ℕ) → fails_length table ≡ false → length table / 12 ≤ 128
unfolding fails_length
length-ok table h =
    let a = or_off (eqb (length table) 0 || ltb 1536 (length table)) (not (eqb (length table % 12) 0)) h in
    let b = ltb-false 1536 (length table) (or_off (eqb (length table) 0) (ltb 1536 (length table)) a.0).1 in
    omega arith

-- The order of the table's own refusals, with LOOSE as the code looks for it.
pub verdict-steps : (table : List ℕ) (columns : ℕ)
    → table_verdict table columns
    ≡ (refuse_if (fails_width columns) (refusal 1 0)
    then refuse_if (fails_length table) (refusal 2 0)
    then records_verdict table columns (length table / 12))
unfolding table_verdict verdict_by records_verdict fails_loose loose_in top_of record_count
verdict-steps table columns = refl

-- LOOSE by what the check carries up to the end.
pub loose-is : (table : List ℕ) (n near : ℕ) (terms used : List Bool) → n ≤ 128 → Carried table n near terms used → (k : ℕ) → k < n
    → loose_by terms used near k ≡ loose_in table n k
unfolding loose_by loose_in
loose-is table n near terms used few c k h =
    rw (c.terms_below k (omega arith), c.used_below k (omega arith), lt-ltb k n h, c.nearest)

-- The records passed: the verdict is that on LOOSE.
pub records-loose : (table : List ℕ) (columns n near : ℕ) (terms used : List Bool) → n ≤ 128 → Carried table n near terms used
    → each_below n (judge table columns) ≡ Ok tt
    → each_below n (λ (k : ℕ). refuse_if (loose_by terms used near k) (refusal 14 k)) ≡ records_verdict table columns n
unfolding records_verdict
records-loose table columns n near terms used few c passed =
    each_same _ _ n (λ k h. ap (λ (b : Bool). refuse_if b (refusal 14 k)) (loose-is table n near terms used few c k h))
    ∙ sym (then_next (each_below n (judge table columns)) _ passed)

-- One record is refused: the verdict is that on it.
pub records-refused : (table : List ℕ) (columns n k : ℕ) (why : Refusal) → k < n → each_below k (judge table columns) ≡ Ok tt
    → judge table columns k ≡ Err why
    → records_verdict table columns n ≡ Err why
unfolding records_verdict
records-refused table columns n k why h passed refused =
    then-first (each_below n (judge table columns)) _ why (each_first (judge table columns) n k why h passed refused)

-- ---- the summary

module _ (table : List ℕ) (columns : ℕ) (passed : table_verdict table columns ≡ Ok tt) where
  accepts : Accepted table columns
  accepts = accepted-gives table columns passed

  -- An accepted table can be summed up.
  pub summed : Summed table
  summed =
      let t = accepted-table table columns accepts in
      record {
        few = t.few_records;
        top = t.top_below;
        narrow = record { most = t.few_records; each = λ i h. column-more columns t.few_columns (record_at table i) (accepts.records i h).column };
      }

-- The mask of the top is the columns that it reads.
pub top_mask : (table : List ℕ) → top_of table < record_count table → mask_below table (record_count table) (top_of table) ≡ columns_of (term_at table (top_of table))
unfolding term_at
top_mask table h =
    masks-columns table (record_count table) (record_count table) (top_of table)
    ∙ ap columns_of (terms-below table (record_count table) (record_count table) (top_of table) h)
