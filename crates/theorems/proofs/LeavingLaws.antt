-- Rows left out, and two catalogues, on bytes (SPECIFICATION, "Leaving out rows"). Assumes nothing.
-- What a reader or a contract cites stands in specs/Leaving.
use Rattle.std.specs.Prelude.{◌≡◌, refl, Bool, true, List, ℕ, ◌*◌, ◌<◌, ◌≤◌, ℤ, length, get_or, Ok}
use Rattle.std.proofs.Math.Path.{sym, ap}
use Rattle.std.proofs.Common.{◌∙◌, arith}
use Rattle.model.specs.Search.{count_below}
use Rattle.model.specs.Term.{term_at}
use Rattle.model.specs.Better.{Row}
use Rattle.model.specs.Query.{kept, answer, kept_count, row_count, beats_in, query_reply, query_buffer}
use Rattle.model.specs.Demand.{keeps}
use Rattle.model.specs.Leaving.{left_rows, old_number, kept_rows}
use Rattle.laws.specs.Order.{Rel, Strict}
use Rattle.laws.specs.Search.{count-bound}
use Rattle.laws.specs.Answers.{answer-row}
use Rattle.laws.specs.Rows.{beats-strict}
use Rattle.laws.specs.Query as query
use Rattle.laws.proofs.Strict.{ordered}
use Rattle.laws.proofs.Taken.{taken-asked, taken-sound}
use Rattle.laws.specs.Renumbered.{old-is, new-of, old-rising}
use Rattle.laws.specs.Leaving.{kept-left, count-kept-left, answer-is-left, answer-left, kept_in_own, rows_of_all, own-holds}
use Rattle.laws.specs.LeftRows.{left-row, left-ext, left-rows-length, left-rows-count}
use Rattle.laws.specs.Merged.{beats_over, worse_in, worse-strict, beats-over, kept_again, count-again, rows-again, answer-again}
use Rattle.laws.specs.Catalogues.{kept_of_run}
use Rattle.theorems.specs.Asked.{Asked, Long}
use Rattle.theorems.specs.Ordered.{taken}
use Rattle.theorems.proofs.Dropped.{query-takes}
use Rattle.theorems.specs.LeftOut.{Renumbered, SameAnswers, SameAnswersOf}
use Rattle.theorems.specs.Leaving.{some-column, rows_whole, rows_few, asked_of}

-- ---- any rows, any relation

renumbered : (n : ℕ) (stays : ℕ → Bool) → Renumbered n stays
renumbered n stays =
    record {
      is_left = λ i h. let o = old-is n stays i h in (o.row, o.stays);
      has_number = λ k h e. let o = new-of n stays k h e in (count_below k stays, o.0, o.1);
      in_order = old-rising n stays;
    }

pub left-out-of : (n : ℕ) (beats : Rel ℕ) → Strict beats → (stays : ℕ → Bool)
    → ((k : ℕ) → k < n → kept n beats k ≡ true → stays k ≡ true) → SameAnswersOf n beats stays
left-out-of n beats strict stays holds =
    record {
      numbers = renumbered n stays;
      same_count = count-kept-left beats strict n stays holds;
      same_kept = kept-left beats strict n stays holds;
      is_entry = answer-is-left beats strict n stays holds;
      same_entry = answer-left beats strict n stays holds;
    }

-- Any number of catalogues, each row kept in its own.
pub merged-of : (catalogues : List ℕ) (beats : Rel ℕ) → Strict beats
    → ((k : ℕ) → k < rows_of_all catalogues → kept (rows_of_all catalogues) beats k ≡ true → kept_in_own catalogues beats k ≡ true)
    × SameAnswersOf (rows_of_all catalogues) beats (kept_in_own catalogues beats)
merged-of catalogues beats strict = (
  own-holds catalogues beats,
  left-out-of (rows_of_all catalogues) beats strict (kept_in_own catalogues beats) (own-holds catalogues beats),
)

-- ---- what Query takes

module _ (table : List ℕ) (columns : ℕ) (rows : List ℤ) (term group : ℕ) (asked : Asked table columns rows term group) where
  -- What a query over them gives and writes.
  pub query-asked : (before : List ℕ) → Long columns rows before → query.Asked table columns rows term group before
  query-asked before long =
      taken-asked table columns rows term group before (query-takes table columns rows term group asked before long)

  -- The term's order of rows, within a group.
  abbrev pub order : Rel Row
  order = worse_in (term_at table term) group

  pub order-strict : Strict order
  order-strict =
      let s = taken-sound table columns term (taken table columns term asked.of_term) in
      worse-strict (term_at table term) group (ordered (term_at table term) s.0 s.1).strict

  -- Rows are kept by it.
  pub keeps-order : (before : List ℕ) → Long columns rows before → (i : ℕ) → i < row_count columns rows
      → keeps table columns rows term group before i ≡ kept (row_count columns rows) (beats_over order columns rows) i
  keeps-order before long i h =
      query.keeps-kept table columns rows term group before (query-asked before long) i h
      ∙ ap (λ (r : Rel ℕ). kept (row_count columns rows) r i) (beats-over (term_at table term) columns rows group)

  -- The kept rows as a run.
  pub kept-rows-order : (before : List ℕ) → Long columns rows before
      → Strict order × (kept_rows table columns rows term group before ≡ kept_of_run order columns rows)
  unfolding kept_rows kept_of_run left_rows
  kept-rows-order before long = (
    order-strict,
    left-ext columns rows rows (keeps table columns rows term group before)
        (kept (row_count columns rows) (beats_over order columns rows)) (row_count columns rows) (λ i h. refl)
        (keeps-order before long),
  )

-- ---- rows left out

module _ (table : List ℕ) (columns : ℕ) (rows : List ℤ) (term group : ℕ) (asked : Asked table columns rows term group)
    (stays : ℕ → Bool) (a b : List ℕ) (long : Long columns rows a) (room : Long columns (left_rows columns rows stays) b)
    (holds : (i : ℕ) → i < row_count columns rows → keeps table columns rows term group a i ≡ true → stays i ≡ true) where
  abbrev n : ℕ
  n = row_count columns rows

  abbrev m : ℕ
  m = count_below n stays

  abbrev left : List ℤ
  left = left_rows columns rows stays

  abbrev worse : Rel Row
  worse = order table columns rows term group asked

  some : 1 ≤ columns
  some = some-column table columns rows term group asked

  whole : length rows ≡ n * columns
  whole = rows_whole table columns rows term group asked

  left-count : row_count columns left ≡ m
  left-count = left-rows-count columns some rows stays

  left-asked : Asked table columns left term group
  left-asked =
      asked_of table columns rows term group asked left m (left-rows-length columns some rows stays)
      (omega (arith, count-bound n stays, rows_few table columns rows term group asked))

  before : query.Asked table columns rows term group a
  before = query-asked table columns rows term group asked a long

  after : query.Asked table columns left term group b
  after = query-asked table columns left term group left-asked b room

  strict : Strict worse
  strict = order-strict table columns rows term group asked

  beats-rows : beats_in (term_at table term) columns rows group ≡ beats_over worse columns rows
  beats-rows = beats-over (term_at table term) columns rows group

  beats-left : beats_in (term_at table term) columns left group ≡ beats_over worse columns left
  beats-left = beats-over (term_at table term) columns left group

  keeps-rows : (i : ℕ) → i < n → keeps table columns rows term group a i ≡ kept n (beats_over worse columns rows) i
  keeps-rows = keeps-order table columns rows term group asked a long

  keeps-left : (i : ℕ) → i < m → keeps table columns left term group b i ≡ kept m (beats_over worse columns left) i
  keeps-left i h =
      keeps-order table columns left term group left-asked b room i (rw left-count h) ∙ rw left-count

  all_stay : (k : ℕ) → k < n → kept n (beats_over worse columns rows) k ≡ true → stays k ≡ true
  all_stay k h e = holds k h (keeps-rows k h ∙ e)

  same_kept : (i : ℕ) → i < m
      → keeps table columns left term group b i ≡ keeps table columns rows term group a (old_number n stays i)
  unfolding left_rows
  same_kept i h =
      keeps-left i h
      ∙ kept_again worse strict columns rows n (omega (arith, whole)) stays all_stay i h
      ∙ sym (keeps-rows (old_number n stays i) (old-is n stays i h).row)

  is-entry : (i : ℕ) → i < m → get_or (query_buffer table columns left term group b) i 0 < m
  is-entry i h =
      let k : i < row_count columns left = rw left-count h in
      let o = beats-strict columns left group (term_at table term) after.strict in
      let e = query.entry table columns left term group b after i 0 k in
      let w = answer-row (beats_in (term_at table term) columns left group) o (row_count columns left) i k in
      omega (arith, e, w, left-count)

  same-entry : (i : ℕ) → i < m
      → old_number n stays (get_or (query_buffer table columns left term group b) i 0)
      ≡ get_or (query_buffer table columns rows term group a) (old_number n stays i) 0
  unfolding left_rows
  same-entry i h =
      ap (old_number n stays)
      (query.entry table columns left term group b after i 0 (rw left-count h)
      ∙ rw left-count (ap (λ (r : Rel ℕ). answer m r i) beats-left))
      ∙ answer-again worse strict columns rows n (omega (arith, whole)) stays all_stay i h
      ∙ sym (query.entry table columns rows term group a before (old_number n stays i) 0 (old-is n stays i h).row
      ∙ ap (λ (r : Rel ℕ). answer n r (old_number n stays i)) beats-rows)

  same-reply : query_reply table columns left term group b ≡ query_reply table columns rows term group a
  unfolding left_rows
  same-reply =
      query.passed-reply table columns left term group b after
      ∙ ap Ok
      (rw left-count (ap (λ (r : Rel ℕ). kept_count m r) beats-left)
      ∙ count-again worse strict columns rows n (omega (arith, whole)) stays all_stay
      ∙ sym (ap (λ (r : Rel ℕ). kept_count n r) beats-rows))
      ∙ sym (query.passed-reply table columns rows term group a before)

  same-rows : kept_rows table columns left term group b ≡ kept_rows table columns rows term group a
  unfolding kept_rows left_rows
  same-rows =
      rw left-count
      (left-ext columns left left (keeps table columns left term group b) (kept m (beats_over worse columns left)) m
      (λ i h. refl) keeps-left
      ∙ rows-again worse strict columns rows n (omega (arith, whole)) stays all_stay
      ∙ sym (left-ext columns rows rows (keeps table columns rows term group a) (kept n (beats_over worse columns rows)) n
      (λ i h. refl) keeps-rows))

  -- "Take out some or all of the dropped rows .."
  pub leaving-out : SameAnswers table columns rows term group stays a b
  unfolding left_rows
  leaving-out =
      record {
        is_asked = left-asked;
        numbers = renumbered n stays;
        is_count = left-count;
        is_row = left-row columns rows stays n (omega (arith, whole));
        same_reply = same-reply;
        same_rows = same-rows;
        same_kept = same_kept;
        is_entry = is-entry;
        same_entry = same-entry;
      }
