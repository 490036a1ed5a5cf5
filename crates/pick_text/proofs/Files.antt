-- A file longer than is taken is refused by its length alone (SPECIFICATION, "The program pick"). Assumes nothing.
use mathlib.Core.Path.{◌≡◌, refl, sym, ap, ◌∙◌}
use mathlib.Core.Logic.{⊎_elim}
use mathlib.Core.Bool.{true, not}
use mathlib.Core.List.{List}
use Prim.Native.Nat.{ℕ, ◌/◌, ◌%◌, ◌<◌}
use native.Mathlib.Omega.{arith}
use lib.Dec.{ltb, eqb}
use lib.ListN.{length, take}
use lib.Seq.{take_all, length-take-le}
use borrow.Author.Tests.{lt-ltb, ltb-true, ltb-false}
use Rattle.std.specs.Prelude.{Ok, Err}
use Rattle.model.specs.Words.{Verdict}
use Rattle.model.specs.Replies.{refusal}
use Rattle.model.specs.Check.{◌then◌, by_verdict, verdict_by, table_verdict, summary, fails_width, fails_length}
use Rattle.model.specs.Pick.{refused_text, fails_file, pick_verdict, pick_beats, answer_text, pick_text}
use Rattle.laws.specs.Bools.{or_l, or_r, on-or-off}

-- Of a table longer than 1,536 bytes the text is LENGTH's.
long-length : (prefs : List ℕ) → 1536 < length prefs → fails_length prefs ≡ true
unfolding fails_length
long-length prefs h =
    or_l (not (eqb (length prefs % 12) 0)) (or_r (eqb (length prefs) 0) (lt-ltb 1536 (length prefs) h))

long-table : (prefs rows : List ℕ) → 1536 < length prefs → pick_text prefs rows ≡ refused_text (refusal 2 0)
unfolding pick_text pick_verdict table_verdict verdict_by fails_width
long-table prefs rows h = rw (long-length prefs h)

-- Longer rows than 32,768 bytes are refused.
long-rows : (rows : List ℕ) → 32768 < length rows → fails_file rows ≡ true
unfolding fails_file
long-rows rows h = rw (lt-ltb 32768 (length rows) h)

-- Two files of rows that are refused give the same text.
refused-rows : (prefs a b : List ℕ) → fails_file a ≡ true → fails_file b ≡ true → pick_text prefs a ≡ pick_text prefs b
unfolding pick_text pick_verdict
refused-rows prefs a b e f = rw (e, f) (go (table_verdict prefs 8))
  where
    go : (v : Verdict)
        → by_verdict (v then Err (refusal 15 0)) refused_text
        (answer_text (summary prefs) (length a / 32) (pick_beats prefs a))
        ≡ by_verdict (v then Err (refusal 15 0)) refused_text
        (answer_text (summary prefs) (length b / 32) (pick_beats prefs b))
    go (Ok u) = refl
    go (Err why) = refl

module _ (prefs rows : List ℕ) (a b : ℕ) (long-enough : 1536 < a) (long-enough' : 32768 < b) where
  first_rows : pick_text prefs (take b rows) ≡ pick_text prefs rows
  first_rows =
      ⊎_elim
      (λ e. let h = ltb-true b (length rows) e in
      refused-rows prefs (take b rows) rows
      (long-rows (take b rows) (omega (arith, length-take-le b rows (omega arith))))
      (long-rows rows (omega arith)))
      (λ e. ap (pick_text prefs) (take_all b rows (ltb-false b (length rows) e)))
      (on-or-off (ltb b (length rows)))

  -- The first bytes decide, where they are at least one more than is taken.
  pub first-bytes : pick_text (take a prefs) (take b rows) ≡ pick_text prefs rows
  first-bytes =
      ⊎_elim
      (λ e. let h = ltb-true a (length prefs) e in
      long-table (take a prefs) (take b rows) (omega (arith, length-take-le a prefs (omega arith)))
      ∙ sym (long-table prefs rows (omega arith)))
      (λ e. ap (λ (p : List ℕ). pick_text p (take b rows)) (take_all a prefs (ltb-false a (length prefs) e))
      ∙ first_rows)
      (on-or-off (ltb a (length prefs)))
