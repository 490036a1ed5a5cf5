-- The third signed sentence (SPECIFICATION, "The promises") as the one claim that the specification makes of it ("The
-- third promise, word by word"): its clauses in their order, of the buffers that Query wrote. Its words are those of
-- specs/Asked. That it holds of whatever Query takes is `third_sentence` of src/signed.rt, and that no query is refused,
-- `query_refuses_none`.
use Rattle.std.specs.Prelude.{◌≡◌, ◌⊎◌, ◌↔◌, true, false, List, ℕ, suc, ◌<◌, ℤ, length, get_or, Ok}
use Rattle.std.specs.Int.Bits.{bit_or}
use Rattle.model.specs.declared.Outcome.{Outcome}
use Rattle.model.specs.Record.{p_at, q_at}
use Rattle.model.specs.Term.{term_at, columns_of}
use Rattle.model.specs.Better.{Row, better}
use Rattle.model.specs.Compare.{compare_reply}
use Rattle.model.specs.Query.{row_count, fails_group, query_reply, query_buffer}
use Rattle.model.specs.Demand.{accepted, left_first, right_first, equally}
use Rattle.laws.specs.Outcome.{turned}
use Rattle.theorems.specs.Asked.{TwoParts, Long, BeatenBy, BeatenApart, KeepsAmong}

-- "All this holds of the rows that either engine keeps": the contracts of both say that the buffer at exit is
-- `query_buffer` of what they were lent. These answers are so, of a buffer long enough.
pub record Wrote (table : List ℕ) (columns : ℕ) (rows : List ℤ) (term group : ℕ) (answers : List ℕ) : Type 0 where
  pub before : List ℕ
  pub long : Long columns rows before
  pub written : answers ≡ query_buffer table columns rows term group before

-- "Keeps: Query, by either engine and with the same column count, rows and group byte, gives row i the entry i." (Where a
-- list has no entry i, that is none.)
abbrev pub Keeps : List ℕ → ℕ → Type 0
Keeps answers i = get_or answers i (suc i) ≡ i

-- "Dropped: any other entry."
abbrev pub Drops : List ℕ → ℕ → Type 0
Drops answers i = Keeps answers i → ⊥

-- "One placed before the other": record k of `placing` has the table's record `first` before the record `second`.
pub record PlacedBefore (table placing : List ℕ) (columns : ℕ) (rows : List ℤ) (k first second group : ℕ) : Type 0 where
  -- "Keeps a row exactly when the first keeps it and the second keeps it among the rows of the set that equal it in the
  -- first's columns."
  pub keeps_row : (a b : List ℕ) → Wrote placing columns rows k group a → Wrote table columns rows first group b
      → (i : ℕ) → i < row_count columns rows
      → Keeps a i ↔ (Keeps b i × KeepsAmong table columns rows first second group i)
  -- "Query on the second gives this when the bits of those columns are set in the group byte too."
  pub by_group : (c : List ℕ) → Wrote table columns rows second (bit_or group (columns_of (term_at table first))) c
      → (i : ℕ) → i < row_count columns rows
      → Keeps c i ↔ KeepsAmong table columns rows first second group i

-- What Query writes for a record is the same of two tables.
abbrev pub WroteAlike : List ℕ → List ℕ → ℕ → List ℤ → ℕ → ℕ → Type 0
WroteAlike table other columns rows term group =
    (a : List ℕ) → Wrote table columns rows term group a ↔ Wrote other columns rows term group a

-- "Of two parts": those of record k. Its two placings are `left_first` and `right_first`, ranking equally is `equally`.
pub record OfTwoParts (table : List ℕ) (columns : ℕ) (rows : List ℤ) (k group : ℕ) : Type 0 where
  -- "Check accepts each of the three."
  pub left_accepted : accepted (left_first table k) columns ≡ true
  pub right_accepted : accepted (right_first table k) columns ≡ true
  pub equally_accepted : accepted (equally table k) columns ≡ true
  -- "The query asks for that record, or for the part's own where a part alone keeps": of the table or any of the three.
  pub part_alone : (part g : ℕ) → (part ≡ p_at table k) ⊎ (part ≡ q_at table k) → fails_group columns g ≡ false
      → WroteAlike table (left_first table k) columns rows part g
      × WroteAlike table (right_first table k) columns rows part g
      × WroteAlike table (equally table k) columns rows part g
  -- "One placed before the other keeps a row exactly when ..": the left before the right,
  pub left_before : PlacedBefore table (left_first table k) columns rows k (p_at table k) (q_at table k) group
  -- and the right before the left.
  pub right_before : PlacedBefore table (right_first table k) columns rows k (q_at table k) (p_at table k) group
  -- "The same two, ranking equally, keep a row exactly when at least one of the two placings keeps it, or when it is
  -- beaten under both placings but by no single row of the set under both."
  pub ranked_equally : (a b c : List ℕ) → Wrote (equally table k) columns rows k group a
      → Wrote (left_first table k) columns rows k group b → Wrote (right_first table k) columns rows k group c
      → (i : ℕ) → i < row_count columns rows
      → Keeps a i ↔ (Keeps b i ⊎ (Keeps c i ⊎ BeatenApart (left_first table k) (right_first table k) columns rows k group i))

-- The third signed sentence of a table, column count, rows, a term and a group byte.
pub record ThirdSentence (table : List ℕ) (columns : ℕ) (rows : List ℤ) (term group : ℕ) : Type 0 where
  -- "The term orders the rows strictly: none is better than itself,
  pub irreflexive : (x : Row) → better (term_at table term) x x ≡ true → ⊥
  -- and better than better is better;
  pub transitive : (x y z : Row) → better (term_at table term) x y ≡ true → better (term_at table term) y z ≡ true
      → better (term_at table term) x z ≡ true
  -- comparing two rows gives replies that say so." "For any rows x, y, z of the count's length": no call is refused,
  pub compare_answers : (x y : Row) → length x ≡ columns → length y ≡ columns
      → (o : Outcome) × (compare_reply table columns term x y ≡ Ok o)
  -- and a reply of first better is that the first is better.
  pub compare_first : (x y : Row) → length x ≡ columns → length y ≡ columns
      → (compare_reply table columns term x y ≡ Ok Outcome.First)
      ↔ (better (term_at table term) y x ≡ true)
  -- "x against x gives same."
  pub compare_same : (x : Row) → length x ≡ columns
      → compare_reply table columns term x x ≡ Ok Outcome.Same
  -- "Where x, y gives first better, y, x gives second better, and the other way about; same and unranked don't change
  -- when the rows change places": `turned` of specs/Outcome of `laws`.
  pub compare_turned : (x y : Row) → length x ≡ columns → length y ≡ columns → (o : Outcome)
      → compare_reply table columns term x y ≡ Ok o
      → compare_reply table columns term y x ≡ Ok (turned o)
  -- "Where x, y and y, z give first better, so does x, z."
  pub compare_chained : (x y z : Row) → length x ≡ columns → length y ≡ columns → length z ≡ columns
      → compare_reply table columns term x y ≡ Ok Outcome.First
      → compare_reply table columns term y z ≡ Ok Outcome.First
      → compare_reply table columns term x z ≡ Ok Outcome.First
  -- "Of two parts, one placed before the other keeps a row exactly when .. The same two, ranking equally, keep a row
  -- exactly when .." "Two parts: those of a record of kind 16, 17 or 18."
  pub of_two_parts : TwoParts table term → OfTwoParts table columns rows term group
  -- "Every dropped row is beaten by a kept row of the set": by the one that its entry names.
  pub dropped : (a : List ℕ) → Wrote table columns rows term group a
      → (i : ℕ) → i < row_count columns rows → Drops a i
      → (j : ℕ) × BeatenBy table columns rows term group i j × Keeps a j × (get_or a i 0 ≡ j)

-- Query refuses nothing of a buffer long enough: it gives a kept count.
abbrev pub Answers : List ℕ → ℕ → List ℤ → ℕ → ℕ → Type 0
Answers table columns rows term group =
    (before : List ℕ) → Long columns rows before
    → (total : ℕ) × (query_reply table columns rows term group before ≡ Ok total)

-- None of the queries on two parts is refused: record k in the three tables, each part's own record, and each part with
-- the bits of the other's columns set in the group byte too.
pub record PartsAnswer (table : List ℕ) (columns : ℕ) (rows : List ℤ) (k group : ℕ) : Type 0 where
  pub left : Answers (left_first table k) columns rows k group
  pub right : Answers (right_first table k) columns rows k group
  pub ranking : Answers (equally table k) columns rows k group
  pub left_part : Answers table columns rows (p_at table k) group
  pub right_part : Answers table columns rows (q_at table k) group
  pub right_among : Answers table columns rows (q_at table k) (bit_or group (columns_of (term_at table (p_at table k))))
  pub left_among : Answers table columns rows (p_at table k) (bit_or group (columns_of (term_at table (q_at table k))))
