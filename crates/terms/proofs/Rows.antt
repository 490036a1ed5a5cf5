-- The rows of what the edges of each EXPLICIT term reach, put into one array (SPECIFICATION, "When a row is better":
-- EXPLICIT). Assumes nothing.
use mathlib.Core.Path.{◌≡◌, refl, sym, ◌∙◌, ap}
use mathlib.Core.Logic.{⊎_elim}
use mathlib.Core.Bool.{Bool, true, false≢true}
use mathlib.Core.List.{List, []}
use Prim.Native.Nat.{ℕ, ◌+◌, ◌-◌, ◌*◌, ◌/◌, ◌%◌, ◌<◌, ◌≤◌}
use native.Mathlib.Omega.{arith}
use lib.Dec.{ltb, eqb}
use lib.ListN.{length, get_or, set, length-set}
use lib.Seq.{get_or-set_same, get_or-set_other}
use borrow.Author.Tests.{ltb-true, ltb-false}
use Rattle.model.specs.declared.Record.TheVariants.{Base}
use Rattle.model.specs.declared.BaseTerm.TheVariants.{Explicit}
use Rattle.model.specs.Bytes.{signed}
use Rattle.model.specs.Record.{record_count, record_at, record_of, kind_at, u_at, v_at, is_term}
use Rattle.laws.specs.Bools.{on-or-off}
use Rattle.laws.specs.Search.{lt-suc-cases}
use Rattle.terms.specs.Run.{Values}
use Rattle.terms.specs.Closure.{end_word, cell_at, Closure}
use Rattle.terms.specs.Prepared.{number_at, RunEnds, RowsPut, ReachedFrom}
use Rattle.terms.specs.Edges.{explicit-nine}

-- ---- one array's rows in another

-- No row is put yet.
pub put-none : (g before : List (List Bool)) (start : ℕ) → RowsPut g start start before before
put-none g before start =
    record { size = refl; put = λ p l h. absurd (omega arith); kept = λ p f. refl }

-- One row more.
pub put-more : (g before after : List (List Bool)) (start i : ℕ) → RowsPut g start i before after → start ≤ i → i < length after
    → RowsPut g start (i + 1) before (set after i (get_or g (i - start) []))
put-more g before after start i r l w =
    record {
      size = length-set after i (get_or g (i - start) []) ∙ r.size;
      put = λ p a b.
          ⊎_elim
          (λ q. get_or-set_other after i p (get_or g (i - start) []) [] (λ e. omega arith) ∙ r.put p a q)
          (λ q. rw q (get_or-set_same after i (get_or g (i - start) []) [] w))
          (lt-suc-cases p i (omega arith));
      kept = λ p f.
          get_or-set_other after i p (get_or g (i - start) []) [] (λ e. f (omega arith) (omega arith))
          ∙ r.kept p (λ a b. f a (omega arith));
    }

-- ---- what they say

module _ (table : List ℕ) where
  -- The number at a place after record k is that end of the edges after record k.
  number-end : (k p : ℕ) → 2 * k + 2 ≤ p → signed (end_word table k (p - (2 * k + 2))) ≡ number_at table p
  unfolding end_word number_at u_at v_at
  number-end k p h =
      let a : (p - (2 * k + 2)) % 2 ≡ p % 2 = omega arith in
      let b : k + 1 + (p - (2 * k + 2)) / 2 ≡ p / 2 = omega arith in
      rw (a, b) (⊎_elim (λ e. rw e) (λ e. rw e) (on-or-off (eqb (p % 2) 0)))

  -- The closure's rows, put at the places of its ends.
  rows-reach : (k e : ℕ) (g before after : List (List Bool)) → Values table k e → Closure table k e g → 2 * e ≤ length before
      → RowsPut g (2 * k + 2) (2 * e) before after → ReachedFrom table k e after
  unfolding cell_at
  rows-reach k e g before after v c room r =
      record {
        rows = rw r.size room;
        each = λ p q a b d f.
            let w : p - (2 * k + 2) < 32 = omega (arith, v.few) in
            let z : q - (2 * k + 2) < 32 = omega (arith, v.few) in
            rw (r.put p a b, ← (number-end k p a), ← (number-end k q d)) (c.each (p - (2 * k + 2)) (q - (2 * k + 2)) w z);
      }

  -- Rows stay what they were where no row of the run changes.
  rows_stay : (k e : ℕ) (before after : List (List Bool)) → length after ≡ length before
      → ((p : ℕ) → p < 2 * e → get_or after p [] ≡ get_or before p []) → ReachedFrom table k e before
      → ReachedFrom table k e after
  unfolding cell_at
  rows_stay k e before after size f r =
      record { rows = rw size r.rows; each = λ p q a b c d. rw (f p b) (r.each p q a b c d) }

  -- A record of kind 9, which is EXPLICIT's, is a term.
  pub nine-term : (k : ℕ) → kind_at table k ≡ 9 → is_term (record_at table k) ≡ true
  unfolding record_at record_of
  nine-term k e = rw e

  -- The run of an earlier term ends before a term.
  ends-before : (j e k : ℕ) → Values table j e → j < k → is_term (record_at table k) ≡ true → e ≤ k
  ends-before j e k v h t =
      ⊎_elim
      (λ q. absurd (false≢true (sym (ap is_term (v.each k h (ltb-true k e q))) ∙ t)))
      (λ q. ltb-false k e q)
      (on-or-off (ltb k e))

-- ---- term after term

-- The rows of the EXPLICIT terms below record k stand.
abbrev pub ReachedBelow : List ℕ → List ℕ → ℕ → List (List Bool) → Type 0
ReachedBelow table ends k reach =
    (j column : ℕ) → j < k → record_at table j ≡ Base column Explicit → ReachedFrom table j (get_or ends j 0) reach

module _ (table ends : List ℕ) (k : ℕ) where
  -- A record that is no EXPLICIT term has no rows.
  pub below_other : (reach : List (List Bool)) → ReachedBelow table ends k reach → (kind_at table k ≡ 9 → ⊥)
      → ReachedBelow table ends (k + 1) reach
  below_other reach below other j column h e =
      ⊎_elim
      (λ q. below j column q e)
      (λ q. absurd (other (rw q at (explicit-nine table j column e))))
      (lt-suc-cases j k (omega arith))

  -- The rows of an EXPLICIT term change no earlier term's.
  pub below_more : (g before after : List (List Bool)) → RunEnds table ends → k < record_count table → kind_at table k ≡ 9
      → Closure table k (get_or ends k 0) g → 256 ≤ length before → RowsPut g (2 * k + 2) (2 * get_or ends k 0) before after
      → ReachedBelow table ends k before
      → ReachedBelow table ends (k + 1) after
  below_more g before after runs few nine c room r below j column h e =
      ⊎_elim
      (λ q. rows_stay table j (get_or ends j 0) before after r.size
      (λ p b. r.kept p
      (λ a d. let w = ends-before table j (get_or ends j 0) k (runs.each j (omega arith) (ap is_term e)).values q term in omega arith))
      (below j column q e))
      (λ q. rw q own)
      (lt-suc-cases j k (omega arith))
    where
      term : is_term (record_at table k) ≡ true
      term = nine-term table k nine

      own : ReachedFrom table k (get_or ends k 0) after
      own =
          let v = (runs.each k few term).values in
          rows-reach table k (get_or ends k 0) g before after v c (omega (arith, room, v.last)) r
