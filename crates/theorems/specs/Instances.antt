-- The theorems of src/lib.rt and of the second signed sentence (src/signed.rt) that have hypotheses, on table T1 and rows
-- V of the specification ("Worked cases"), with every hypothesis computed: none of them is empty. Assumes nothing.
use Rattle.std.specs.Prelude.{◌≡◌, refl, ◌↔◌, true, false, not, List, [], ◌∷◌, ℕ, ◌<◌, ◌≤◌, eqb, ℤ, pos, length, get_or, Ok, Err}
use Rattle.std.proofs.Common.{arith}
use Rattle.std.proofs.lemmas.Bool.{not-false}
use Rattle.model.specs.declared.Refusal.{Refusal}
use Rattle.model.specs.Search.{any_below, count_below}
use Rattle.model.specs.Record.{record_count, record_at, is_term}
use Rattle.model.specs.Term.{Term, term_at, columns_of}
use Rattle.model.specs.Better.{Row, equal_in, EqualIn}
use Rattle.model.specs.Query.{Unbeaten, LowestKept, row_count, row_at, beats_in, fails_rows, fails_group}
use Rattle.model.specs.Query.{query_verdict, query_reply, query_buffer}
use Rattle.model.specs.Demand.{accepted, keeps}
use Rattle.model.specs.cases.Opened.{opened}
use Rattle.model.specs.cases.Tables.{minus, T1, rows_v}
use Rattle.laws.specs.Search.{none-e}
use Rattle.laws.specs.Masks.{equal_in-cells}
use Rattle.laws.specs.Query.{refused-buffer}
use Rattle.laws.specs.Accepted.{accepted-true}
use Rattle.laws.specs.AcceptedTerms.{AcceptedTerm}
use Rattle.laws.proofs.AcceptedTerms.{accepted-term}
use Rattle.laws.proofs.Answered as answered
use Rattle.theorems.specs.Strictly.{TermRecord}
use Rattle.theorems.specs.Asked.{Long}
use Rattle.theorems.specs.Unread as unread

-- Record k's term of T1: 0 AROUND, 1 LOWEST, 2 PARETO 0 1, 3 HIGHEST, 4 PARETO 2 3. Row i of V. A buffer for seven rows.
abbrev pub T : ℕ → Term
T k = term_at T1 k

abbrev pub row : ℕ → Row
row i = row_at 3 rows_v i

abbrev pub seven : List ℕ
seven = 0 ∷ 0 ∷ 0 ∷ 0 ∷ 0 ∷ 0 ∷ 0 ∷ []

-- ---- what is asked

T1-accepted : accepted T1 3 ≡ true
unfolding opened
T1-accepted = refl

five-records : record_count T1 ≡ 5
unfolding opened
five-records = refl

pub seven-rows : row_count 3 rows_v ≡ 7
unfolding opened
seven-rows = refl

terms : (is_term (record_at T1 1) ≡ true) × (is_term (record_at T1 4) ≡ true)
unfolding opened
terms = (refl, refl)

pub rows_fit : fails_rows 3 rows_v ≡ false
unfolding opened
rows_fit = refl

pub group-fits : fails_group 3 0 ≡ false
unfolding opened
group-fits = refl

pub lowest : TermRecord T1 3 1
lowest = record { is_accepted = T1-accepted; below = omega (arith, five-records); is_record = terms.0 }

pub top : TermRecord T1 3 4
top = record { is_accepted = T1-accepted; below = omega (arith, five-records); is_record = terms.1 }

pub long : Long 3 rows_v seven
long = omega (arith, seven-rows)

-- ---- acceptance, and the second signed sentence

pub accepted-terms : AcceptedTerm T1 3 4
accepted-terms = accepted-term T1 3 ((accepted-true T1 3).0 T1-accepted) 4 (omega (arith, five-records)) terms.1

passed : query_verdict T1 3 rows_v 4 0 seven ≡ Ok tt
unfolding opened
passed = refl

-- Row 1 is dropped.
drops-one : keeps T1 3 rows_v 4 0 seven 1 ≡ false
unfolding opened
drops-one = refl

pub keeps-is-unbeaten : (keeps T1 3 rows_v 4 0 seven 0 ≡ true) ↔ Unbeaten (row_count 3 rows_v) (beats_in (T 4) 3 rows_v 0) 0
keeps-is-unbeaten = answered.keeps-unbeaten T1 3 rows_v 4 0 seven passed 0 (omega (arith, seven-rows))

pub drops-name-lowest : LowestKept (row_count 3 rows_v) (beats_in (T 4) 3 rows_v 0) 1
    (get_or (query_buffer T1 3 rows_v 4 0 seven) 1 0)
drops-name-lowest = answered.drops-name-lowest T1 3 rows_v 4 0 seven passed 1 0 (omega (arith, seven-rows)) drops-one

pub gives-and-writes :
    (query_reply T1 3 rows_v 4 0 seven
    ≡ Ok (count_below (row_count 3 rows_v) (λ i. eqb (get_or (query_buffer T1 3 rows_v 4 0 seven) i 0) i)))
    × (length (query_buffer T1 3 rows_v 4 0 seven) ≡ length seven)
    × ((i : ℕ) → row_count 3 rows_v ≤ i → get_or (query_buffer T1 3 rows_v 4 0 seven) i 0 ≡ get_or seven i 0)
gives-and-writes = answered.gives-and-writes T1 3 rows_v 4 0 seven passed 0

-- A buffer for one row is SHORT.
short : query_verdict T1 3 rows_v 4 0 (0 ∷ []) ≡ Err Refusal.Short
unfolding opened
short = refl

pub refusal-writes-nothing : query_buffer T1 3 rows_v 4 0 (0 ∷ []) ≡ 0 ∷ []
refusal-writes-nothing = refused-buffer T1 3 rows_v 4 0 (0 ∷ []) Refusal.Short short

-- ---- columns that are not read

-- V with column 2 changed: LOWEST reads column 1, the group byte 1 column 0.
abbrev changed : List ℤ
changed =
    minus 5 ∷ pos 3 ∷ pos 9
    ∷ minus 5 ∷ pos 4 ∷ pos 9
    ∷ pos 5 ∷ pos 1 ∷ pos 9
    ∷ pos 5 ∷ pos 6 ∷ pos 9
    ∷ minus 6 ∷ pos 0 ∷ pos 9
    ∷ minus 6 ∷ pos 0 ∷ pos 9
    ∷ pos 6 ∷ pos 2 ∷ pos 9
    ∷ []

agree-in : (mask : ℕ) → any_below (row_count 3 rows_v) (λ i. not (equal_in mask (row i) (row_at 3 changed i))) ≡ false
    → (i : ℕ) → i < row_count 3 rows_v → EqualIn mask (row i) (row_at 3 changed i)
agree-in mask e i h =
    (equal_in-cells mask (row i) (row_at 3 changed i)).0
    (not-false (equal_in mask (row i) (row_at 3 changed i))
    (none-e (row_count 3 rows_v) (λ i. not (equal_in mask (row i) (row_at 3 changed i))) e i h))

term-agrees : any_below (row_count 3 rows_v) (λ i. not (equal_in (columns_of (T 1)) (row i) (row_at 3 changed i))) ≡ false
unfolding opened
term-agrees = refl

group-agrees : any_below (row_count 3 rows_v) (λ i. not (equal_in 1 (row i) (row_at 3 changed i))) ≡ false
unfolding opened
group-agrees = refl

pub unread-columns : (query_reply T1 3 rows_v 1 1 seven ≡ query_reply T1 3 changed 1 1 seven)
    × (query_buffer T1 3 rows_v 1 1 seven ≡ query_buffer T1 3 changed 1 1 seven)
unread-columns =
    unread.unread-columns T1 3 rows_v changed 1 1 seven refl (agree-in (columns_of (T 1)) term-agrees)
    (agree-in 1 group-agrees)
