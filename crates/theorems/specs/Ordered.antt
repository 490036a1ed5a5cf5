-- A term record of an accepted table orders the rows strictly, and Compare's replies say so (SPECIFICATION, "The third
-- promise, word by word": "Strictly"). Assumes nothing.
use Rattle.std.specs.Prelude.{◌≡◌, ◌↔◌, true, List, ℕ, length, Ok}
use Rattle.std.proofs.Common.{sym, ◌∙◌, ap}
use Rattle.model.specs.Words.{CompareReply}
use Rattle.model.specs.declared.Outcome.{Outcome}
use Rattle.model.specs.Term.{term_at}
use Rattle.model.specs.Better.{Row, better}
use Rattle.model.specs.Compare.{outcome, compare_reply}
use Rattle.laws.specs.Sound.{sound, within}
use Rattle.laws.proofs.Strict as strict
use Rattle.laws.specs.Outcome.{turned}
use Rattle.laws.proofs.Compared.{outcome-first}
use Rattle.laws.specs.Accepted.{accepted-true}
use Rattle.laws.specs.Taken.{TakenTerm}
use Rattle.laws.proofs.Taken.{taken-sound}
use Rattle.laws.proofs.Replied.{compared-reply, reply-self, reply-turned, reply-chained}
use Rattle.theorems.specs.Strictly.{TermRecord}

-- A term record of an accepted table is one that a call takes.
pub taken : (table : List ℕ) (columns term : ℕ) → TermRecord table columns term → TakenTerm table columns term
taken table columns term t =
    record { is_accepted = (accepted-true table columns).0 t.is_accepted; below = t.below; is_record = t.is_record }

first-given : (o : Outcome) → ◌≡◌ {A = CompareReply} (Ok o) (Ok Outcome.First) → o ≡ Outcome.First
first-given o e = cc

module _ (table : List ℕ) (columns term : ℕ) (t : TermRecord table columns term) where
  good : (sound (term_at table term) ≡ true) × (within 8 (term_at table term) ≡ true)
  good = taken-sound table columns term (taken table columns term t)

  -- None is better than itself,
  pub irreflexive : (x : Row) → better (term_at table term) x x ≡ true → ⊥
  irreflexive = strict.irreflexive (term_at table term) good.0 good.1

  -- and better than better is better.
  pub transitive : (x y z : Row) → better (term_at table term) x y ≡ true → better (term_at table term) y z ≡ true
      → better (term_at table term) x z ≡ true
  transitive = strict.transitive (term_at table term) good.0 good.1

  -- x against x gives same.
  pub compare_same : (x : Row) → length x ≡ columns
      → compare_reply table columns term x x ≡ Ok Outcome.Same
  compare_same = reply-self table columns term (taken table columns term t)

  -- First better and second better change places with the rows; same and unranked stay.
  pub compare-turned : (x y : Row) → length x ≡ columns → length y ≡ columns → (o : Outcome)
      → compare_reply table columns term x y ≡ Ok o
      → compare_reply table columns term y x ≡ Ok (turned o)
  compare-turned = reply-turned table columns term (taken table columns term t)

  -- Where x, y and y, z give first better, so does x, z.
  pub compare-chained : (x y z : Row) → length x ≡ columns → length y ≡ columns → length z ≡ columns
      → compare_reply table columns term x y ≡ Ok Outcome.First
      → compare_reply table columns term y z ≡ Ok Outcome.First
      → compare_reply table columns term x z ≡ Ok Outcome.First
  compare-chained = reply-chained table columns term (taken table columns term t)

  -- None of these calls is refused.
  pub compare-refuses-none : (x y : Row) → length x ≡ columns → length y ≡ columns
      → (o : Outcome) × (compare_reply table columns term x y ≡ Ok o)
  compare-refuses-none x y e f = (
    outcome (term_at table term) x y,
    compared-reply table columns term (taken table columns term t) x y e f,
  )

  -- A reply of first better is that the first is better.
  pub compare-first : (x y : Row) → length x ≡ columns → length y ≡ columns
      → (compare_reply table columns term x y ≡ Ok Outcome.First)
      ↔ (better (term_at table term) y x ≡ true)
  compare-first x y e f =
      let given = compared-reply table columns term (taken table columns term t) x y e f in
      let w = outcome-first (term_at table term) good.0 good.1 x y in (
        λ r. w.0 (first-given (outcome (term_at table term) x y) (sym given ∙ r)),
        λ b. given ∙ ap Ok (w.1 b),
      )
