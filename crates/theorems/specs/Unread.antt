-- Columns that neither the term nor the group reads have no bearing on the answers (SPECIFICATION, "The calls"): of any
-- bytes. Assumes nothing.
use Rattle.std.specs.Prelude.{◌≡◌, List, ℕ, ◌<◌, ℤ, length, Ok, Err}
use Rattle.std.proofs.Math.Path.{refl}
use Rattle.model.specs.Words.{Verdict}
use Rattle.model.specs.Term.{term_at, columns_of}
use Rattle.model.specs.Better.{EqualIn}
use Rattle.model.specs.Query.{answer, row_count, row_at, beats_in, fails_rows, fails_short, query_verdict, query_reply, query_buffer}
use Rattle.laws.specs.Fill.{fill-ext}
use Rattle.laws.specs.Unread.{unread-cells}
use Rattle.laws.specs.Taken.{taken-gives}
use Rattle.laws.proofs.Taken.{taken-sound}

module _ (table : List ℕ) (columns : ℕ) (rows rows' : List ℤ) (term group : ℕ) (before : List ℕ)
    (long : length rows ≡ length rows')
    (in-term : (i : ℕ) → i < row_count columns rows
    → EqualIn (columns_of (term_at table term)) (row_at columns rows i) (row_at columns rows' i))
    (in_group : (i : ℕ) → i < row_count columns rows → EqualIn group (row_at columns rows i) (row_at columns rows' i)) where
  count : row_count columns rows' ≡ row_count columns rows
  unfolding row_count
  count = rw long

  verdict : query_verdict table columns rows' term group before ≡ query_verdict table columns rows term group before
  unfolding query_verdict fails_rows fails_short row_count
  verdict = rw long

  abbrev Same : Type 0
  Same =
      (query_reply table columns rows term group before ≡ query_reply table columns rows' term group before)
      × (query_buffer table columns rows term group before ≡ query_buffer table columns rows' term group before)

  by-verdict : (v : Verdict) → query_verdict table columns rows term group before ≡ v → Same
  unfolding query_reply query_buffer
  by-verdict (Err why) e = rw (verdict, e) (refl, refl)
  by-verdict (Ok u) e =
      let t = taken-gives table columns rows term group before e in
      let s = taken-sound table columns term t.of_term in
      let n = row_count columns rows in
      let u = unread-cells (term_at table term) s.1 columns group n rows rows' in-term in_group in
      rw (verdict, e, count, ← u.1) (
        refl,
        fill-ext n (answer n (beats_in (term_at table term) columns rows group))
            (answer n (beats_in (term_at table term) columns rows' group)) before u.0,
      )

  -- Two runs as long as each other, whose rows agree in the columns that the term or the group reads, get one reply and one
  -- answer buffer.
  pub unread-columns : Same
  unread-columns = by-verdict (query_verdict table columns rows term group before) refl
