-- What the reply says of the row, in the specification's own words. Assumes nothing.
use mathlib.Core.Path.{◌≡◌, refl, sym, ◌∙◌, ap}
use mathlib.Core.Bool.{Bool, true, false, false≢true}
use mathlib.Core.List.{List}
use Prim.Native.Nat.{ℕ}
use Rattle.std.specs.Prelude.{Ok, Err}
use Rattle.model.specs.Words.{Verdict, PerfectReply}
use Rattle.model.specs.declared.Mark.{Mark}
use Rattle.model.specs.Term.{term_at}
use Rattle.model.specs.Better.{Row}
use Rattle.model.specs.Check.{by_verdict}
use Rattle.model.specs.Compare.{fails_row, term_verdict}
use Rattle.model.specs.Perfect.{perfect, mark_of, perfect_reply}
use Rattle.laws.specs.Perfect.{perfect-all}
use Rattle.laws.specs.Taken.{term-gives}
use Rattle.perfect.specs.Marks.{Asked}
use Rattle.perfect.specs.Says.{Says}

is_yes : PerfectReply → Bool
is_yes (Ok Mark.Yes) = true
is_yes (Ok Mark.No) = false
is_yes (Err why) = false

is_no : PerfectReply → Bool
is_no (Ok Mark.Yes) = false
is_no (Ok Mark.No) = true
is_no (Err why) = false

module _ (table : List ℕ) (columns term : ℕ) (row : Row) where
  says-by : (v : Verdict) (b : Bool) → perfect false (term_at table term) row ≡ b
      → Says table term row (by_verdict v Err (Ok (mark_of b)))
  unfolding is_yes is_no
  says-by (Err why) b e =
      record { yes = λ q. absurd (false≢true (ap is_yes q)); no = λ q p. false≢true (ap is_no q) }
  says-by (Ok u) true e =
      record {
        yes = λ q. (perfect-all false (term_at table term) row).0 e;
        no = λ q p. false≢true (ap is_no q);
      }
  says-by (Ok u) false e =
      record {
        yes = λ q. absurd (false≢true (ap is_yes q));
        no = λ q p. false≢true (sym e ∙ (perfect-all false (term_at table term) row).1 p);
      }

  reply-says : Says table term row (perfect_reply table columns term row)
  unfolding perfect_reply
  reply-says =
      says-by (term_verdict table columns (fails_row columns row) term) (perfect false (term_at table term) row) refl

  -- A reply that is the one of `model` says it.
  pub says : (r : PerfectReply) → r ≡ perfect_reply table columns term row
      → (r ≡ perfect_reply table columns term row) × Says table term row r
  says r e = (e, rw e reply-says)

  -- Where nothing is refused, the term asked for is one of an accepted table.
  pub asked : (unfit : Bool) → term_verdict table columns unfit term ≡ Ok tt → Asked table term
  asked unfit e = record { columns = columns; taken = (term-gives table columns unfit term e).0 }
