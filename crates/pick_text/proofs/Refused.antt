-- The text where the table or the file of rows is refused (SPECIFICATION, "The program pick"). Assumes nothing.
use mathlib.Core.Path.{◌≡◌}
use mathlib.Core.Bool.{true}
use mathlib.Core.List.{List}
use Prim.Native.Nat.{ℕ, ◌/◌}
use native.Mathlib.Omega.{arith}
use lib.ListN.{length}
use Rattle.std.specs.Prelude.{Ok, Err}
use Rattle.model.specs.Words.{Verdict}
use Rattle.model.specs.declared.{Refusal.Refusal, Summary.Summary}
use Rattle.model.specs.Replies.{refusals, numbered, refusal}
use Rattle.model.specs.Check.{refuse_if, ◌then◌, by_verdict, table_verdict, summary, check_reply}
use Rattle.model.specs.Pick.{refused_text, fails_file, pick_verdict, pick_beats, answer_text, pick_text}
use Rattle.pick_text.proofs.Answered.{passed}

-- A refused table.
pub table-refused : (prefs rows : List ℕ) (why : Refusal) → check_reply prefs 8 ≡ Err why
    → pick_text prefs rows ≡ refused_text why
unfolding check_reply pick_text pick_verdict
table-refused prefs rows why e = go (table_verdict prefs 8) e
  where
    go : (v : Verdict) → by_verdict v Err (Ok (summary prefs)) ≡ Err why
        → by_verdict (v then refuse_if (fails_file rows) (refusal 15 0)) refused_text
        (answer_text (summary prefs) (length rows / 32) (pick_beats prefs rows))
        ≡ refused_text why
    go (Ok u) e = let z : ◌≡◌ {A = ℕ} 0 1 = cc in absurd (omega arith)
    go (Err other) e = cc

-- An accepted table, and a file of rows that is refused.
pub file-refused : (prefs rows : List ℕ) (s : Summary) → check_reply prefs 8 ≡ Ok s → fails_file rows ≡ true
    → pick_text prefs rows ≡ refused_text Refusal.Rows
unfolding pick_text pick_verdict refusal numbered refusals
file-refused prefs rows s accepted e = rw (passed prefs rows s accepted, e)
