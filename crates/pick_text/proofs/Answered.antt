-- The text of an accepted table and a file of rows that is not refused, by the reply of Query (SPECIFICATION, "The
-- program pick"). Assumes nothing.
use mathlib.Core.Path.{◌≡◌, refl, sym, ap, ◌∙◌}
use mathlib.Core.Bool.{false, not}
use mathlib.Core.List.{List, ◌++◌}
use Prim.Native.Nat.{ℕ, zero, suc, ◌/◌, ◌%◌, ◌<◌, ◌≤◌}
use native.Mathlib.Omega.{arith}
use lib.Dec.{ltb, eqb}
use lib.IntN.{ℤ}
use lib.ListN.{length, get_or, take}
use lib.Seq.{get_or-take, length-take-le}
use borrow.Author.Tests.{eqb-true, eq-eqb, le-ltb, ltb-false, not-false}
use Rattle.std.specs.Prelude.{Ok, Err}
use Rattle.model.specs.declared.{Refusal.Refusal, Summary.Summary}
use Rattle.model.specs.Search.{any_below, fill}
use Rattle.model.specs.Bytes.{bit, numbers}
use Rattle.model.specs.Check.{table_verdict, summary, check_reply}
use Rattle.model.specs.Query.{answer, kept_count, row_count, fails_rows, fails_group, query_reply, query_buffer}
use Rattle.model.specs.Pick.{ok_text, rows_text, fails_file, pick_verdict, pick_beats, answer_text, pick_text}
use Rattle.laws.specs.Members.{or_off}
use Rattle.laws.specs.Fill.{fill-in}
use Rattle.laws.specs.Accepted.{accepted-gives, reply-verdict, reply-summary}
use Rattle.laws.specs.AcceptedTable.{accepted-table}
use Rattle.laws.specs.Taken.{Taken, taken-from}
use Rattle.pick_text.proofs.Numbers.{numbers-length}

-- The same entries give the same lines.
rows_same : (n : ℕ) (f g : ℕ → ℕ) → ((i : ℕ) → i < n → f i ≡ g i) → rows_text n f ≡ rows_text n g
unfolding rows_text
rows_same zero f g h = refl
rows_same (suc n) f g h = rw (rows_same n f g (λ i l. h i (omega arith)), h n (omega arith))

-- A file that is not refused is whole rows, at most 1,024.
pub file-sizes : (rows : List ℕ) → fails_file rows ≡ false → (length rows ≤ 32768) × (length rows % 32 ≡ 0)
unfolding fails_file
file-sizes rows fits =
    let e = or_off (ltb 32768 (length rows)) (not (eqb (length rows % 32) 0)) fits in
    (ltb-false 32768 (length rows) e.0, eqb-true (length rows % 32) 0 (not-false (eqb (length rows % 32) 0) e.1))

-- The run that is filled has the numbers of the file.
pub run-is : (rows : List ℕ) (old : List ℤ) {given : List ℤ} → fails_file rows ≡ false
    → given ≡ numbers rows (length (take (length rows / 4) old)) → 8192 ≤ length old → given ≡ numbers rows (length rows / 4)
run-is rows old fits filled long =
    filled ∙ ap (numbers rows) (length-take-le (length rows / 4) old (omega (arith, (file-sizes rows fits).0, long)))

module _ (prefs rows : List ℕ) (s : Summary) (accepted : check_reply prefs 8 ≡ Ok s) where
  -- The summary and the verdict that this reply tells.
  is-summary : s ≡ summary prefs
  is-summary = reply-summary prefs 8 s accepted

  pub passed : table_verdict prefs 8 ≡ Ok tt
  passed = (reply-verdict prefs 8).0 (accepted ∙ ap Ok is-summary)

  module _ (fits : fails_file rows ≡ false) where
    abbrev run : List ℤ
    run = numbers rows (length rows / 4)

    abbrev most : ℕ
    most = length rows / 32

    sizes : (length rows ≤ 32768) × (length rows % 32 ≡ 0)
    sizes = file-sizes rows fits

    rows-number : row_count 8 run ≡ most
    unfolding row_count
    rows-number = rw (numbers-length rows (length rows / 4)) (omega (arith, sizes.1))

    rows_fit : fails_rows 8 run ≡ false
    unfolding fails_rows
    rows_fit =
        rw (
          numbers-length rows (length rows / 4),
          eq-eqb (length rows / 4 % 8) 0 (omega (arith, sizes.1)),
          rows-number,
          le-ltb 1024 most (omega (arith, sizes.0)),
        )

    ungrouped : fails_group 8 0 ≡ false
    unfolding fails_group any_below bit
    ungrouped = refl

    -- Query takes the top of the table over these rows.
    taken : (before : List ℕ) → 1024 ≤ length before → Taken prefs 8 run s.top 0 before
    unfolding summary
    taken before long =
        let a = accepted-gives prefs 8 passed in
        let t = accepted-table prefs 8 a in
        let top = ap (λ (x : Summary). x.top) is-summary in
        record {
          of_term = record { is_accepted = a; below = rw top t.top_below; is_record = rw top t.top };
          rows_fit = rows_fit;
          group_fits = ungrouped;
          long = rw rows-number (omega (arith, sizes.0));
        }

    -- So it refuses nothing
    replied : (before : List ℕ) → 1024 ≤ length before
        → query_reply prefs 8 run s.top 0 before ≡ Ok (kept_count most (pick_beats prefs rows))
    unfolding query_reply pick_beats summary
    replied before long =
        rw (taken-from prefs 8 run s.top 0 before (taken before long), rows-number, is-summary)

    -- and writes the entries of the text.
    written : (before : List ℕ) → 1024 ≤ length before
        → query_buffer prefs 8 run s.top 0 before ≡ fill most (answer most (pick_beats prefs rows)) before
    unfolding query_buffer pick_beats summary
    written before long =
        rw (taken-from prefs 8 run s.top 0 before (taken before long), rows-number, is-summary)

    by_entries : ok_text s (kept_count most (pick_beats prefs rows)) ++ rows_text most (answer most (pick_beats prefs rows))
        ≡ pick_text prefs rows
    unfolding pick_text pick_verdict answer_text
    by_entries = rw (passed, fits, is-summary)

    answered : (before : List ℕ) → 1024 ≤ length before
        → ok_text s (kept_count most (pick_beats prefs rows))
        ++ rows_text most (λ i. get_or (query_buffer prefs 8 run s.top 0 before) i 0)
        ≡ pick_text prefs rows
    answered before long =
        let f = answer most (pick_beats prefs rows) in
        ap (λ (t : List ℕ). ok_text s (kept_count most (pick_beats prefs rows)) ++ t)
        (rows_same most (λ i. get_or (query_buffer prefs 8 run s.top 0 before) i 0) f
        (λ i h. ap (λ (b : List ℕ). get_or b i 0) (written before long)
        ∙ fill-in f before most i 0 h (omega (arith, sizes.0))))
        ∙ by_entries

    -- Query on the numbers of the file.
    module _ (given : List ℤ) (same : given ≡ run) (before : List ℕ) (long : 1024 ≤ length before) where
      -- It does not refuse.
      pub not-refused : (why : Refusal) → query_reply prefs 8 given s.top 0 before ≡ Err why → ⊥
      not-refused why e =
          let r = replied before long in
          let z : ◌≡◌ {A = ℕ} 0 1 = cc in
          omega arith

      -- The text by what it gives, and by the entries that it writes for the rows.
      pub kept-text : (kept : ℕ) → query_reply prefs 8 given s.top 0 before ≡ Ok kept
          → (after : List ℕ) → after ≡ query_buffer prefs 8 given s.top 0 before → 1024 ≤ length after
          → pick_text prefs rows ≡ ok_text s kept ++ rows_text (length (take most after)) (λ i. get_or (take most after) i 0)
      kept-text kept e after is enough =
          let r = replied before long in
          let k : kept ≡ kept_count most (pick_beats prefs rows) = cc in
          let n : length (take most after) ≡ most = length-take-le most after (omega (arith, sizes.0, enough)) in
          let f = λ (i : ℕ). get_or (take most after) i 0 in
          let t : ok_text s kept ++ rows_text most (λ i. get_or after i 0) ≡ pick_text prefs rows =
          rw (is, same, k) (answered before long) in
          sym
          (ap (λ (m : ℕ). ok_text s kept ++ rows_text m f) n
          ∙ ap (λ (l : List ℕ). ok_text s kept ++ l)
          (rows_same most f (λ i. get_or after i 0) (λ i h. get_or-take most after i 0 h))
          ∙ t)
