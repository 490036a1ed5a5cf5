-- The codes of the records below k are those of their terms: one record more, and the sizes of the buffers. Assumes nothing.
use Rattle.std.specs.Prelude.{◌≡◌, refl, Bool, true, false, List, ℕ, ◌+◌, ◌*◌, ◌/◌, ◌%◌, ◌<◌, ◌≤◌, ltb, ℤ, get_or, length}
use Rattle.std.proofs.Common.{sym, ◌∙◌, ⊎_elim, arith, ltb-true, ltb-false}
use Rattle.std.proofs.lemmas.Bool.{false≢true}
use Rattle.model.specs.Record.{record_count, record_at, is_term}
use Rattle.model.specs.Term.{term_at}
use Rattle.model.specs.Query.{row_at}
use Rattle.laws.specs.Bools.{on-or-off}
use Rattle.laws.specs.Search.{lt-suc-cases}
use Rattle.laws.specs.Codes.{code}
use Rattle.laws.specs.Accepted.{Accepted}
use Rattle.laws.specs.AcceptedTable.{accepted-table}
use Rattle.terms.specs.Prepared.{NextTerm}
use Rattle.rows.specs.Places.{place_in}
use Rattle.plan.specs.declared.vetted.exit_masks.{Exit.Exit}
use Rattle.blocks.specs.Ready.{Ready, AtRecord, Coded}

module _ {table : List ℕ} {marks : List Bool} {columns : ℕ} {rows : List ℤ} {n i b : ℕ} where
  -- Below record 0 there is none.
  pub coded_none : {codes : List ℕ} → Coded table marks columns rows n i b 0 codes
  coded_none = record { each = λ h j l. absurd (omega arith) }

  -- One record more, whose 64 codes are right where it is a marked term; those below it stay.
  pub coded-more : {k : ℕ} {old new : List ℕ} → Coded table marks columns rows n i b k old
      → ((x : ℕ) → x < k * 64 → get_or new x 0 ≡ get_or old x 0)
      → (get_or marks k false ≡ true → is_term (record_at table k) ≡ true → (j : ℕ) → j < 64 → b * 64 + j < n
      → get_or new (k * 64 + j) 0 ≡ code (term_at table k) (row_at columns rows i) (row_at columns rows (b * 64 + j)))
      → Coded table marks columns rows n i b (k + 1) new
  coded-more {k} c below right =
      record {
        each = λ h j l m t small row.
            ⊎_elim
            (λ q. below (h * 64 + j) (omega arith) ∙ c.each h j q m t small row)
            (λ q. rw q (right (rw q at m) (rw q at t) j small row))
            (lt-suc-cases h k (omega arith));
      }

  -- A record that is not marked, or no term, has no codes.
  pub coded-unmarked : {k : ℕ} {codes : List ℕ} → get_or marks k false ≡ false → Coded table marks columns rows n i b k codes
      → Coded table marks columns rows n i b (k + 1) codes
  coded-unmarked u c = coded-more c (λ x l. refl) (λ m. absurd (false≢true (sym u ∙ m)))

  pub coded-other : {k : ℕ} {codes : List ℕ} → is_term (record_at table k) ≡ false
      → Coded table marks columns rows n i b k codes → Coded table marks columns rows n i b (k + 1) codes
  coded-other u c = coded-more c (λ x l. refl) (λ m t. absurd (false≢true (sym u ∙ t)))

  -- Up to the next term there are values only, which have no codes.
  pub coded-next : {k e m : ℕ} {codes : List ℕ} → NextTerm table k m e → Coded table marks columns rows n i b (k + 1) codes
      → Coded table marks columns rows n i b e codes
  coded-next {k} next c =
      record {
        each = λ h j l m t small row.
            ⊎_elim
            (λ q. c.each h j (ltb-true h (k + 1) q) m t small row)
            (λ q. absurd (false≢true (sym (next.between h (omega (arith, ltb-false h (k + 1) q)) l) ∙ t)))
            (on-or-off (ltb h (k + 1)));
      }

module _ {table : List ℕ} {numbers : List ℤ} {ends : List ℕ} {reach : List (List Bool)} {marks : List Bool}
    {exits : List Exit} {term columns : ℕ} {rows : List ℤ} {n stride : ℕ} {ranks values : List ℤ}
    (ready : Ready table numbers ends reach marks exits term columns rows n stride ranks values) where
  pub ok : Accepted table columns
  ok = ready.taken.is_accepted

  -- The asked term is one of at most 128 records.
  pub term-below : term < 128
  term-below = omega (arith, ready.taken.below, (accepted-table table columns ok).few_records)

  module _ {i b k : ℕ} (at : AtRecord marks term n i b k) where
    pub below : k < record_count table
    below = omega (arith, ready.taken.below, at.most)

    pub record-below : k < 128
    record-below = omega (arith, term-below, at.most)

    -- A block takes room for record k's ranks.
    pub record-wide : k * 64 + 64 ≤ stride
    record-wide = omega (arith, ready.wide, at.most)

    -- Row i's rank stands in the buffer,
    pub rank-place : i / 64 * stride + k * 64 + i % 64 < length ranks
    rank-place = place_in n stride ready.rank_room i k at.row record-wide

    -- and so do the ranks of block b,
    pub ranks-end : b * stride + k * 64 + 64 ≤ length ranks
    ranks-end = omega (arith, ready.rank_room.each b at.block, record-wide)

    -- and the cells of row i's block.
    pub value_room : i / 64 * 512 + 512 ≤ length values
    value_room = ready.value_room.each (i / 64) (omega (arith, at.row))

  -- The first record is a term.
  pub first-term : is_term (record_at table 0) ≡ true
  first-term = (accepted-table table columns ok).first

  module _ {k : ℕ} (is : is_term (record_at table k) ≡ true) (before : k ≤ term) where
    -- After term record k comes the next,
    pub next-term : NextTerm table k (record_count table) (get_or ends k 0)
    next-term = (ready.runs.each k (omega (arith, before, ready.taken.below)) is).follows

    -- which is a term record too, unless it is past the asked one.
    pub next-is : get_or ends k 0 ≤ term → is_term (record_at table (get_or ends k 0)) ≡ true
    next-is most = next-term.ends (omega (arith, most, ready.taken.below))
