-- What the third signed sentence is said of (SPECIFICATION, "The third promise, word by word"): "for whatever accepted
-- table, term, rows and group byte Query takes, with answer buffers long enough", and the words that it uses.
use Rattle.std.specs.Prelude.{◌≡◌, ◌⊎◌, true, false, List, ℕ, ◌<◌, ◌≤◌, ℤ, length}
use Rattle.model.specs.Record.{kind_at}
use Rattle.model.specs.Term.{term_at, columns_of}
use Rattle.model.specs.Better.{EqualIn, better}
use Rattle.model.specs.Query.{row_count, row_at, fails_rows, fails_group, query_reply, query_buffer}
use Rattle.model.specs.Demand.{accepted}
use Rattle.theorems.specs.Strictly.{TermRecord}

-- A term record of an accepted table, rows that are not ROWS and a group byte that is not GROUP.
pub record Asked (table : List ℕ) (columns : ℕ) (rows : List ℤ) (term group : ℕ) : Type 0 where
  pub of_term : TermRecord table columns term
  pub rows_fit : fails_rows columns rows ≡ false
  pub group_fits : fails_group columns group ≡ false

-- "Two parts: those of a record of kind 16, 17 or 18."
abbrev pub TwoParts : List ℕ → ℕ → Type 0
TwoParts table k = (kind_at table k ≡ 16) ⊎ ((kind_at table k ≡ 17) ⊎ (kind_at table k ≡ 18))

-- Such a record of an accepted table, rows that are not ROWS and a group byte that is not GROUP.
pub record AskedTwo (table : List ℕ) (columns : ℕ) (rows : List ℤ) (k group : ℕ) : Type 0 where
  pub is_accepted : accepted table columns ≡ true
  pub two_parts : TwoParts table k
  pub rows_fit : fails_rows columns rows ≡ false
  pub group_fits : fails_group columns group ≡ false

-- An answer buffer long enough: it is not SHORT.
abbrev pub Long : ℕ → List ℤ → List ℕ → Type 0
Long columns rows before = row_count columns rows ≤ length before

-- "Beaten by a row under a term: that row is in the same set and better under the term": row i by row j. The set is the
-- rows of one group.
pub record BeatenBy (table : List ℕ) (columns : ℕ) (rows : List ℤ) (term group i j : ℕ) : Type 0 where
  pub is_row : j < row_count columns rows
  pub same_set : EqualIn group (row_at columns rows i) (row_at columns rows j)
  pub is_better : better (term_at table term) (row_at columns rows i) (row_at columns rows j) ≡ true

-- Beaten: by some row.
abbrev pub Beaten : List ℕ → ℕ → List ℤ → ℕ → ℕ → ℕ → Type 0
Beaten table columns rows term group i = (j : ℕ) × BeatenBy table columns rows term group i j

-- "Beaten under both placings but by no single row of the set under both", the placings being record k of two tables.
pub record BeatenApart (left right : List ℕ) (columns : ℕ) (rows : List ℤ) (k group i : ℕ) : Type 0 where
  pub under_left : Beaten left columns rows k group i
  pub under_right : Beaten right columns rows k group i
  pub no_single : (j : ℕ) → BeatenBy left columns rows k group i j → BeatenBy right columns rows k group i j → ⊥

-- "Keeps among the rows equal in the first's columns: no row of the set that equals the row in those columns is better
-- under the second."
abbrev pub KeepsAmong : List ℕ → ℕ → List ℤ → ℕ → ℕ → ℕ → ℕ → Type 0
KeepsAmong table columns rows first second group i =
    (j : ℕ) → EqualIn (columns_of (term_at table first)) (row_at columns rows i) (row_at columns rows j)
    → BeatenBy table columns rows second group i j → ⊥

-- The record answers alike in both tables: one reply and one answer buffer.
abbrev pub Alike : List ℕ → List ℕ → ℕ → List ℤ → ℕ → ℕ → List ℕ → Type 0
Alike table other columns rows term group before =
    (query_reply table columns rows term group before ≡ query_reply other columns rows term group before)
    × (query_buffer table columns rows term group before ≡ query_buffer other columns rows term group before)
