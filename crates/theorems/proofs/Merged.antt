-- Two catalogues queried apart, and their kept rows together, on bytes (SPECIFICATION, "Leaving out rows"). Assumes nothing.
use Rattle.std.specs.Prelude.{◌≡◌, refl, true, List, ◌++◌, ℕ, ◌+◌, ◌*◌, ◌-◌, ◌<◌, ◌≤◌, ltb, ℤ, length}
use Rattle.std.proofs.Math.Path.{sym}
use Rattle.std.proofs.Common.{◌∙◌, arith}
use Rattle.std.proofs.Math.Logic.{⊎_elim}
use borrow.Author.Tests.{ltb-true, ltb-false}
use Rattle.model.specs.Better.{Row}
use Rattle.model.specs.Query.{kept, row_count}
use Rattle.model.specs.Demand.{keeps}
use Rattle.model.specs.Leaving.{left_rows, kept_rows, by_catalogue}
use Rattle.laws.specs.Bools.{on-or-off}
use Rattle.laws.specs.Order.{Rel, Strict}
use Rattle.laws.specs.LeftRows.{left-ext, rows_of, append-rows}
use Rattle.laws.specs.Merged.{beats_over, apart, apart-holds, apart-rows}
use Rattle.theorems.specs.Asked.{Asked, Long}
use Rattle.theorems.specs.LeftOut.{SameAnswers, together, kept_apart}
use Rattle.theorems.specs.Leaving.{some-column, rows_whole, asked_of}
use Rattle.theorems.proofs.LeavingLaws.{order, order-strict, keeps-order, leaving-out}

module _ (table : List ℕ) (columns : ℕ) (first second : List ℤ) (term group : ℕ)
    (asked : Asked table columns first term group) (asked' : Asked table columns second term group)
    (few : row_count columns first + row_count columns second ≤ 1024) (p q : List ℕ)
    (long : Long columns first p) (long' : Long columns second q) where
  abbrev c : ℕ
  c = row_count columns first

  abbrev d : ℕ
  d = row_count columns second

  abbrev both : List ℤ
  both = first ++ second

  abbrev worse : Rel Row
  worse = order table columns first term group asked

  strict : Strict worse
  strict = order-strict table columns first term group asked

  column : 1 ≤ columns
  column = some-column table columns first term group asked

  first-whole : length first ≡ c * columns
  first-whole = rows_whole table columns first term group asked

  second-whole : length second ≡ d * columns
  second-whole = rows_whole table columns second term group asked'

  both-whole : length both ≡ (c + d) * columns
  both-whole = append-rows columns column first second c d first-whole second-whole

  both-count : row_count columns both ≡ c + d
  both-count = rows_of columns column both (c + d) both-whole

  -- Query takes both together.
  both-asked : Asked table columns both term group
  both-asked = asked_of table columns first term group asked both (c + d) both-whole few

  -- Kept apart, by the order of rows.
  keeps-apart : (i : ℕ) → i < c + d
      → kept_apart table columns first second term group p q i
      ≡ apart worse strict columns first second c d first-whole second-whole i
  unfolding by_catalogue
  keeps-apart i h =
      ⊎_elim
      (λ t. rw t (keeps-order table columns first term group asked p long i (ltb-true i c t)))
      (λ t. rw t
      (keeps-order table columns second term group asked' q long' (i - c) (omega (arith, h, ltb-false i c t))))
      (on-or-off (ltb i c))

  -- What one query over both keeps, the query over its own catalogue keeps.
  pub kept-in-own : (r : List ℕ) → Long columns both r → (i : ℕ) → i < row_count columns both
      → keeps table columns both term group r i ≡ true → kept_apart table columns first second term group p q i ≡ true
  kept-in-own r l i h k =
      let g : i < c + d = omega (arith, h, both-count) in
      let e = sym (keeps-order table columns both term group both-asked r l i h) ∙ k in
      keeps-apart i g ∙ apart-holds worse strict columns first second c d first-whole second-whole i g (rw both-count at e)

  -- The kept rows of the two together are what is left of both.
  together-left : together table columns first second term group p q
      ≡ left_rows columns both (kept_apart table columns first second term group p q)
  unfolding kept_rows left_rows
  together-left =
      rw (
        left-ext columns first first (keeps table columns first term group p) (kept c (beats_over worse columns first)) c
            (λ i h. refl) (keeps-order table columns first term group asked p long),
        left-ext columns second second (keeps table columns second term group q) (kept d (beats_over worse columns second)) d
            (λ i h. refl) (keeps-order table columns second term group asked' q long'),
        both-count,
      )
      (apart-rows worse strict columns first second c d first-whole second-whole
      ∙ sym (left-ext columns both both (kept_apart table columns first second term group p q)
      (apart worse strict columns first second c d first-whole second-whole) (c + d) (λ i h. refl) keeps-apart))

  -- "Querying two catalogues separately and then their kept rows together keeps what one query over both does."
  pub merged_keeps : (r s : List ℕ) → Long columns both r → Long columns (together table columns first second term group p q) s
      → Asked table columns both term group
      × (kept_rows table columns (together table columns first second term group p q) term group s
      ≡ kept_rows table columns both term group r)
      × (together table columns first second term group p q
      ≡ left_rows columns both (kept_apart table columns first second term group p q))
      × SameAnswers table columns both term group (kept_apart table columns first second term group p q) r s
  merged_keeps r s l room =
      let same =
      leaving-out table columns both term group both-asked (kept_apart table columns first second term group p q) r s l
      (rw (← together-left) room) (kept-in-own r l) in
      (both-asked, rw together-left same.same_rows, together-left, same)
