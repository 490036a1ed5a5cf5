-- From one term record to the next: the codes of the records below it stand, and what they tell is known. Assumes nothing.
use mathlib.Core.Path.{◌≡◌, refl, sym, ◌∙◌}
use mathlib.Core.Logic.{⊎_elim}
use mathlib.Core.Bool.{Bool, true, false, false≢true}
use mathlib.Core.List.{List}
use Prim.Native.Nat.{ℕ, ◌+◌, ◌<◌, ◌≤◌}
use native.Mathlib.Omega.{arith}
use lib.Dec.{ltb}
use lib.IntN.{ℤ}
use lib.ListN.{get_or, set, length}
use lib.Seq.{get_or-set_same, get_or-set_other}
use borrow.Author.Tests.{ltb-true, ltb-false}
use Rattle.model.specs.Record.{record_count, record_at, is_term}
use Rattle.model.specs.Term.{term_at}
use Rattle.model.specs.Better.{Row}
use Rattle.laws.specs.Bools.{on-or-off}
use Rattle.laws.specs.Search.{lt-suc-cases}
use Rattle.laws.specs.Codes.{code}
use Rattle.laws.specs.AcceptedTable.{accepted-table}
use Rattle.terms.specs.Prepared.{NextTerm}
use Rattle.plan.specs.Told.{told_code, bits}
use Rattle.plan.specs.Exits.{Exits, tells_at}
use Rattle.plan.specs.Known.{Known}
use Rattle.plan.proofs.Bits.{none_within, bits-low}
use Rattle.plan.specs.declared.vetted.exit_masks.{Exit.Exit}
use Rattle.plan.specs.declared.vetted.ops.{Step.Step}
use Rattle.pairs.specs.Pairs.{Comparable, CodesBelow}

-- None stands at first.
pub codes-none : (table : List ℕ) (marks : List Bool) (x y : Row) (codes : List ℕ) → CodesBelow table marks x y 0 codes
codes-none table marks x y codes = record { each = λ h l. absurd (omega (arith, l)) }

module _ {table : List ℕ} {marks : List Bool} {x y : Row} {k : ℕ} {codes : List ℕ}
    (below : CodesBelow table marks x y k codes) where
  -- Up to the next term there are values only, so that record k's code is the one more.
  more : {new : List ℕ} → ((h : ℕ) → h < k → get_or new h 0 ≡ get_or codes h 0)
      → (get_or marks k false ≡ true → is_term (record_at table k) ≡ true → get_or new k 0 ≡ code (term_at table k) x y)
      → {e m : ℕ} → NextTerm table k m e → CodesBelow table marks x y e new
  more old here next =
      record {
        each = λ h l m t.
            ⊎_elim
            (λ b. ⊎_elim (λ c. old h c ∙ below.each h c m t) (λ c. rw c (here (rw c at m) (rw c at t)))
            (lt-suc-cases h k (omega (arith, ltb-true h (k + 1) b))))
            (λ b. absurd (false≢true (sym (next.between h (omega (arith, ltb-false h (k + 1) b)) l) ∙ t)))
            (on-or-off (ltb h (k + 1)));
      }

  -- Record k is not marked.
  pub codes-unmarked : get_or marks k false ≡ false → {e m : ℕ} → NextTerm table k m e → CodesBelow table marks x y e codes
  codes-unmarked u next = more (λ h l. refl) (λ m. absurd (false≢true (sym u ∙ m))) next

  -- Its code is stored.
  pub codes-stored : {c : ℕ} → k < length codes → c ≡ code (term_at table k) x y → {e m : ℕ} → NextTerm table k m e
      → CodesBelow table marks x y e (set codes k c)
  codes-stored {c} l is next =
      more (λ h b. get_or-set_other codes k h c 0 (λ q. omega (arith, b, q))) (λ m t. get_or-set_same codes k c 0 l ∙ is) next

-- Up to the next term there are values only, which tell nothing of the asked term.
pub known_next : {table : List ℕ} {exits : List Exit} {term : ℕ} → Exits table term exits → {x y : Row} {k known : ℕ}
    → Known table term exits x y (k + 1) known → {e m : ℕ} → NextTerm table k m e → Known table term exits x y e known
unfolding tells_at told_code bits
known_next {table} {exits} {term} exiting {x} {y} {k} {known} v next =
    record {
      few = v.few;
      true_of = v.true_of;
      told = λ h l. ⊎_elim
          (λ b. v.told h (ltb-true h (k + 1) b))
          (λ b. let z = exiting.terms h (next.between h (omega (arith, ltb-false h (k + 1) b)) l) in
          rw z (none_within (bits known) (bits-low known)))
          (on-or-off (ltb h (k + 1)));
    }

module _ {table : List ℕ} {ops : List Step} {ends : List ℕ} {reach : List (List Bool)} {marks : List Bool}
    {exits : List Exit} {term columns : ℕ} {rows : List ℤ} {n stride : ℕ} {ranks : List ℤ}
    (ready : Comparable table ops ends reach marks exits term columns rows n stride ranks) where
  -- The first record is a term.
  pub first-term : is_term (record_at table 0) ≡ true
  first-term = (accepted-table table columns ready.taken.is_accepted).first

  module _ {k : ℕ} (is : is_term (record_at table k) ≡ true) (most : k ≤ term) where
    -- After term record k comes the next,
    pub next-term : NextTerm table k (record_count table) (get_or ends k 0)
    next-term = (ready.runs.each k (omega (arith, most, ready.taken.below)) is).follows

    -- which is a term record too where it is not past the asked one.
    pub next-is : get_or ends k 0 ≤ term → is_term (record_at table (get_or ends k 0)) ≡ true
    next-is h = next-term.ends (omega (arith, h, ready.taken.below))
