-- What is said of rows left out and of two catalogues holds of the calls' replies and buffers. Assumes nothing.
use mathlib.Core.Path.{◌≡◌, refl, ◌∙◌, ap}
use mathlib.Core.Logic.{⊎_elim}
use mathlib.Core.Bool.{Bool, true, not, cond}
use mathlib.Core.List.{List, ◌++◌}
use Prim.Native.Nat.{ℕ, min, ◌+◌, ◌*◌, ◌-◌, ◌<◌, ◌≤◌}
use native.Mathlib.Nat.{add-mul, le_antisymm, min-le_left, min-le_right, le-min}
use native.Mathlib.Omega.{arith}
use lib.Dec.{ltb}
use lib.IntN.{ℤ}
use lib.ListN.{length, get_or, take, drop, replicate, length-drop, length-replicate, take-append-drop}
use lib.Seq.{length-take-le}
use borrow.Author.Tests.{ltb-true, ltb-false, lt-ltb, eq-eqb}
use Rattle.std.specs.Prelude.{Ok}
use Rattle.model.specs.Search.{count_below, list_below}
use Rattle.model.specs.Query.{row_count, query_reply, query_buffer}
use Rattle.model.specs.Demand.{keeps}
use Rattle.model.specs.Leaving.{left_rows, old_number, by_catalogue}
use Rattle.laws.specs.Bools.{and_i, or_l, not-both, on-or-off}
use Rattle.laws.specs.Search.{none-i, count-bound}
use Rattle.laws.specs.Query as query
use Rattle.laws.specs.LeftRows.{rows_of, left-rows-count}
use Rattle.theorems.specs.Asked.{Asked, Long}
use Rattle.theorems.specs.LeftOut.{SameAnswers}
use Rattle.theorems.specs.Leaving.{some-column, rows_whole, rows_few, asked_of}
use Rattle.theorems.proofs.LeavingLaws.{query-asked, leaving-out}
use Rattle.theorems.proofs.Merged.{kept-in-own}
use Rattle.demands.specs.Leaving.{same_entry, same_by_number, same_answers, same_twice}
use Rattle.demands.specs.Leaving.{spared, left_out, first_count, kept_by_split, merges}

-- ---- the rows that are left, queried again

module _ (table : List ℕ) (columns : ℕ) (rows : List ℤ) (term group : ℕ) (asked : Asked table columns rows term group)
    (a : List ℕ) (long : Long columns rows a) (stays : ℕ → Bool)
    (holds : (i : ℕ) → i < row_count columns rows
    → keeps table columns rows term group a i ≡ true → stays i ≡ true) where
  abbrev n : ℕ
  n = row_count columns rows

  abbrev m : ℕ
  m = count_below n stays

  abbrev left : List ℤ
  left = left_rows columns rows stays

  abbrev entries : List ℕ
  entries = query_buffer table columns rows term group a

  -- A buffer that is long enough for all rows is so for those that are left.
  left-long : (b : List ℕ) → n ≤ length b → Long columns left b
  left-long b h =
      let c = left-rows-count columns (some-column table columns rows term group asked) rows stays in
      omega (arith, c, count-bound n stays, h)

  module _ (b : List ℕ) (room : Long columns left b) where
    abbrev again : List ℕ
    again = query_buffer table columns left term group b

    same : SameAnswers table columns rows term group stays a b
    same = leaving-out table columns rows term group asked stays a b long room holds

    passed : query.Asked table columns left term group b
    passed = query-asked table columns left term group same.is_asked b room

    -- Each entry is the number of one of them, with the old number of the entry that the row had.
    entry-same : (i : ℕ) → i < m → same_entry (list_below n stays) m entries again i ≡ true
    unfolding same_entry old_number
    entry-same i h =
        and_i (lt-ltb (get_or again i 0) m (same.is_entry i h)) (eq-eqb _ _ (same.same_entry i h))

    -- So says the test of a query,
    answers-same : (total : ℕ) → query_reply table columns rows term group a ≡ Ok total
        → same_answers table columns rows term group stays total entries b ≡ true
    unfolding same_answers same_by_number
    answers-same total e =
        rw (same.same_reply ∙ e)
        (and_i (eq-eqb total total refl)
        (ap not
        (none-i m (λ i. not (same_entry (list_below n stays) m entries again i)) (λ i h d. not-both d (entry-same i h)))))

    -- whose buffer another may use again.
    again-long : n ≤ length b → n ≤ length again
    again-long h = rw (query.buffer-length table columns left term group b passed) h

  -- So says the test of both.
  twice_same : (b : List ℕ) → n ≤ length b
      → (total : ℕ) → query_reply table columns rows term group a ≡ Ok total
      → same_twice table columns rows term group stays total entries b ≡ true
  unfolding same_twice
  twice_same b h total e =
      let c = query_buffer table columns left term group b in
      let l = left-long b h in
      and_i (answers-same b l total e) (answers-same c (left-long c (again-long b l h)) total e)

-- ---- dropped rows taken out

module _ (table : List ℕ) (columns : ℕ) (rows : List ℤ) (term group : ℕ) (out a b : List ℕ)
    (asked : Asked table columns rows term group) (long : Long columns rows a)
    (room : row_count columns rows ≤ length b) where
  -- What is said of them holds.
  pub left-out-holds : left_out table columns rows term group out a b ≡ true
  unfolding left_out spared
  left-out-holds =
      let q = query-asked table columns rows term group asked a long in
      let e = query.passed-reply table columns rows term group a q in
      rw e
      (twice_same table columns rows term group asked a long (spared (keeps table columns rows term group a) out)
      (λ i h k. or_l _ k) b room _ e)

-- ---- two catalogues

-- The rows of two catalogues, one after the other, of c and d rows.
module _ (table : List ℕ) (columns : ℕ) (rows first second : List ℤ) (c d term group : ℕ)
    (asked : Asked table columns rows term group) (whole : first ++ second ≡ rows)
    (la : length first ≡ c * columns) (lb : length second ≡ d * columns) (few : c + d ≤ 1024) where
  some : 1 ≤ columns
  some = some-column table columns rows term group asked

  abbrev zeros : List ℕ
  zeros = replicate 1024 0

  first-counted : row_count columns first ≡ c
  first-counted = rows_of columns some first c la

  second-count : row_count columns second ≡ d
  second-count = rows_of columns some second d lb

  first-asked : Asked table columns first term group
  first-asked = asked_of table columns rows term group asked first c la (omega (arith, few))

  second-asked : Asked table columns second term group
  second-asked = asked_of table columns rows term group asked second d lb (omega (arith, few))

  first-long : Long columns first zeros
  first-long = omega (arith, first-counted, few, length-replicate {A = ℕ} 1024 0)

  second-long : Long columns second (query_buffer table columns first term group zeros)
  second-long =
      let q = query-asked table columns first term group first-asked zeros first-long in
      omega (
        arith,
        second-count,
        few,
        length-replicate {A = ℕ} 1024 0,
        query.buffer-length table columns first term group zeros q,
      )

  -- What a query over both keeps, the query over its own catalogue keeps.
  own-keeps : (a : List ℕ) → Long columns rows a → (i : ℕ) → i < row_count columns rows
      → keeps table columns rows term group a i ≡ true
      → by_catalogue c (keeps table columns first term group zeros)
      (keeps table columns second term group (query_buffer table columns first term group zeros)) i ≡ true
  own-keeps a long i h k =
      let e =
      kept-in-own table columns first second term group first-asked second-asked
      (omega (arith, first-counted, second-count, few)) zeros (query_buffer table columns first term group zeros)
      first-long second-long a (rw whole long) i (rw whole h) (rw whole k) in
      rw first-counted at e

-- The lesser of two counts, by the test which it is.
pub min-is : (split n : ℕ) → min split n ≡ cond (ltb split n) split n
min-is split n =
    ⊎_elim
    (λ t. let h : split ≤ n = omega (arith, ltb-true split n t) in
    rw t (le_antisymm (min-le_left split n) (le-min (omega arith) h)))
    (λ t. rw t (le_antisymm (min-le_right split n) (le-min (omega (arith, ltb-false split n t)) (omega arith))))
    (on-or-off (ltb split n))

-- The first catalogue has no more rows than there are.
pub first-within : (columns : ℕ) (rows : List ℤ) (split : ℕ) → first_count columns rows split ≤ row_count columns rows
unfolding first_count
first-within columns rows split =
    let n = row_count columns rows in
    ⊎_elim (λ t. rw t (omega (arith, ltb-true split n t))) (λ t. rw t (omega arith)) (on-or-off (ltb split n))

module _ (table : List ℕ) (columns : ℕ) (rows : List ℤ) (split term group : ℕ) (a b : List ℕ)
    (asked : Asked table columns rows term group) (long : Long columns rows a)
    (room : row_count columns rows ≤ length b) where
  abbrev rows_of_both : ℕ
  rows_of_both = row_count columns rows

  abbrev c : ℕ
  c = first_count columns rows split

  -- The cells of both.
  together : length rows ≡ c * columns + (rows_of_both - c) * columns
  together =
      let z : rows_of_both ≡ c + (rows_of_both - c) = omega (arith, first-within columns rows split) in
      let e : rows_of_both * columns ≡ (c + (rows_of_both - c)) * columns = ap (λ (k : ℕ). k * columns) z in
      rows_whole table columns rows term group asked ∙ e ∙ add-mul c (rows_of_both - c) columns

  -- What a query over both keeps stays.
  apart-stays : (i : ℕ) → i < rows_of_both → keeps table columns rows term group a i ≡ true
      → kept_by_split table columns rows c term group i ≡ true
  unfolding kept_by_split
  apart-stays =
      own-keeps table columns rows (take (c * columns) rows) (drop (c * columns) rows) c (rows_of_both - c) term group
      asked (take-append-drop (c * columns) rows)
      (length-take-le (c * columns) rows (omega (arith, together)))
      (length-drop (c * columns) rows ∙ omega (arith, together))
      (omega (arith, first-within columns rows split, rows_few table columns rows term group asked))
      a long

  -- What is said of them holds.
  pub merges-holds : merges table columns rows split term group a b ≡ true
  unfolding merges
  merges-holds =
      let q = query-asked table columns rows term group asked a long in
      let e = query.passed-reply table columns rows term group a q in
      rw e
      (twice_same table columns rows term group asked a long (kept_by_split table columns rows c term group) apart-stays
      b room _ e)
