-- The third signed sentence on records of kind 16, 17 and 18, with every hypothesis computed, each clause used on rows
-- whose answers are computed: none of them is empty. Assumes nothing.
-- What a reader or a contract cites stands in specs/InstancesOfThird.
use Rattle.std.specs.Prelude.{◌≡◌, refl, true, false, List, [], ◌∷◌, ◌++◌, ℕ, ℤ, pos, get_or, Ok}
use Rattle.std.proofs.Common.{sym, ◌∙◌, subst, inl, inr, ⊎_elim, arith}
use Rattle.std.specs.Int.Bits.{bit_or}
use Rattle.model.specs.Words.{QueryReply}
use Rattle.model.specs.declared.Outcome.{Outcome}
use Rattle.model.specs.Record.{record_count, record_at, kind_at, p_at, q_at, is_term}
use Rattle.model.specs.Term.{term_at, columns_of}
use Rattle.model.specs.Better.{Row, better}
use Rattle.model.specs.Compare.{compare_reply}
use Rattle.model.specs.Query.{row_count, fails_rows, fails_group, query_reply, query_buffer}
use Rattle.model.specs.Demand.{accepted, left_first, right_first, equally}
use Rattle.model.specs.cases.Opened.{opened}
use Rattle.model.specs.cases.Tables.{minus, wholes, around, lowest, both, rows_v}
use Rattle.theorems.specs.Asked.{BeatenBy, BeatenApart, KeepsAmong}
use Rattle.theorems.specs.ThirdSentence.{Wrote, Keeps, Drops, OfTwoParts, ThirdSentence, PartsAnswer}
use Rattle.theorems.proofs.Joined.{third-sentence, query-refuses-none}
use Rattle.theorems.specs.ThirdClause.{two_lowest, three_rows, is-three, is-pareto, two-lowest-asked, written, wrote}
use Rattle.theorems.specs.ThirdClause.{third-kept, not_left, not_right}
use Rattle.theorems.specs.Instances.{seven, seven-rows, group-fits, long}
use Rattle.theorems.specs.InstancesOfThird.{P, P-asked}

-- Beaten by the row that the entry names.
by-named : (table : List ℕ) (columns : ℕ) (rows : List ℤ) (term group i j named : ℕ) → j ≡ named
    → BeatenBy table columns rows term group i j → BeatenBy table columns rows term group i named
by-named table columns rows term group i j named e b = subst (λ (m : ℕ). BeatenBy table columns rows term group i m) e b

-- ---- kind 16: PARETO of LOWEST 0 and LOWEST 1 over (1,5) (5,1) (3,3)

pareto-two : OfTwoParts two_lowest 2 three_rows 2 0
pareto-two = (third-sentence two_lowest 2 three_rows 2 0 two-lowest-asked).of_two_parts (inl is-pareto)

-- The third row is kept, and neither placing keeps it: it is beaten under both, by no single row.
pub pareto-apart : BeatenApart (left_first two_lowest 2) (right_first two_lowest 2) 2 three_rows 2 0 2
pareto-apart =
    ⊎_elim (λ k. absurd (not_left k)) (λ w. ⊎_elim (λ k. absurd (not_right k)) (λ t. t) w)
    ((pareto-two.ranked_equally (written (equally two_lowest 2)) (written (left_first two_lowest 2))
    (written (right_first two_lowest 2)) (wrote (equally two_lowest 2)) (wrote (left_first two_lowest 2))
    (wrote (right_first two_lowest 2)) 2 (omega (arith, is-three))).0 third-kept)

P-prior : kind_at P 2 ≡ 17
unfolding opened
P-prior = refl

pub prior-sentence : ThirdSentence P 3 rows_v 2 0
prior-sentence = third-sentence P 3 rows_v 2 0 P-asked

-- What Query writes for a record of a table in a buffer for seven rows.
abbrev answers : List ℕ → ℕ → ℕ → List ℕ
answers table term group = query_buffer table 3 rows_v term group seven

answers-wrote : (table : List ℕ) (term group : ℕ) → Wrote table 3 rows_v term group (answers table term group)
answers-wrote table term group = record { before = seven; long = long; written = refl }

-- Rows of three columns, the first the worst.
abbrev x : Row
x = wholes (3 ∷ 0 ∷ 0 ∷ [])

abbrev y : Row
y = wholes (2 ∷ 0 ∷ 0 ∷ [])

abbrev z : Row
z = wholes (1 ∷ 0 ∷ 0 ∷ [])

x-y-z : (better (term_at P 2) x y ≡ true) × (better (term_at P 2) y z ≡ true)
unfolding opened
x-y-z = (refl, refl)

pub prior-transitive : better (term_at P 2) x z ≡ true
prior-transitive = prior-sentence.transitive x y z x-y-z.0 x-y-z.1

-- As z is better than x, x is not better than z, which irreflexive says.
pub prior-irreflexive : better (term_at P 2) z x ≡ true → ⊥
prior-irreflexive b = prior-sentence.irreflexive x (prior-sentence.transitive x z x prior-transitive b)

pub prior-compare-first : compare_reply P 3 2 z x ≡ Ok Outcome.First
prior-compare-first = (prior-sentence.compare_first z x refl refl).1 prior-transitive

pub prior-compare-turned : compare_reply P 3 2 x z ≡ Ok Outcome.Second
prior-compare-turned = prior-sentence.compare_turned z x refl refl Outcome.First prior-compare-first

pub prior-compare-same : compare_reply P 3 2 x x ≡ Ok Outcome.Same
prior-compare-same = prior-sentence.compare_same x refl

pub prior-compare-chained : compare_reply P 3 2 z x ≡ Ok Outcome.First
prior-compare-chained =
    prior-sentence.compare_chained z y x refl refl refl ((prior-sentence.compare_first z y refl refl).1 x-y-z.1)
    ((prior-sentence.compare_first y x refl refl).1 x-y-z.0)

prior-two : OfTwoParts P 3 rows_v 2 0
prior-two = prior-sentence.of_two_parts (inr (inl P-prior))

-- Row 0 is kept: so AROUND keeps it, and LOWEST with the bit of AROUND's column set in the group byte.
zero-kept : Keeps (answers (left_first P 2) 2 0) 0
unfolding opened
zero-kept = refl

pub prior-zero : Keeps (answers P (p_at P 2) 0) 0
    × Keeps (answers P (q_at P 2) (bit_or 0 (columns_of (term_at P (p_at P 2))))) 0
prior-zero =
    let before = prior-two.left_before in
    let g = bit_or 0 (columns_of (term_at P (p_at P 2))) in
    let w = (before.keeps_row (answers (left_first P 2) 2 0) (answers P (p_at P 2) 0) (answers-wrote (left_first P 2) 2 0)
    (answers-wrote P (p_at P 2) 0) 0 (omega (arith, seven-rows))).0 zero-kept in
    (w.0, (before.by_group (answers P (q_at P 2) g) (answers-wrote P (q_at P 2) g) 0 (omega (arith, seven-rows))).1 w.1)

-- Row 1 is dropped and names row 0, though AROUND keeps it: so LOWEST does not keep it among its equals in column 0.
one-zero : get_or (answers P 2 0) 1 0 ≡ 0
unfolding opened
one-zero = refl

one-first : get_or (answers (left_first P 2) 2 0) 1 2 ≡ 0
unfolding opened
one-first = refl

around-keeps-one : Keeps (answers P (p_at P 2) 0) 1
unfolding opened
around-keeps-one = refl

pub prior-one : KeepsAmong P 3 rows_v (p_at P 2) (q_at P 2) 0 1 → ⊥
prior-one among =
    let kept = (prior-two.left_before.keeps_row (answers (left_first P 2) 2 0) (answers P (p_at P 2) 0)
    (answers-wrote (left_first P 2) 2 0) (answers-wrote P (p_at P 2) 0) 1 (omega (arith, seven-rows))).1
    (around-keeps-one, among) in
    omega (arith, one-first)

one-dropped : get_or (answers P 2 0) 1 2 ≡ 0
unfolding opened
one-dropped = refl

pub prior-dropped : BeatenBy P 3 rows_v 2 0 1 0
prior-dropped =
    let w = prior-sentence.dropped (answers P 2 0) (answers-wrote P 2 0) 1 (omega (arith, seven-rows))
    (λ k. omega (arith, one-dropped)) in
    by-named P 3 rows_v 2 0 1 w.0 0 (sym w.3 ∙ one-zero) w.1

-- AROUND alone answers in T1, which is the table that ranks the two equally, as it does here.
pub prior-alone : Wrote (equally P 2) 3 rows_v (p_at P 2) 0 (answers P (p_at P 2) 0)
prior-alone =
    ((prior-two.part_alone (p_at P 2) 0 (inl refl) group-fits).2 (answers P (p_at P 2) 0)).0 (answers-wrote P (p_at P 2) 0)

-- Two rows are kept, and no part is refused.
two-kept : query_reply P 3 rows_v 2 0 seven ≡ Ok 2
unfolding opened
two-kept = refl

same_total : (m n : ℕ) → ◌≡◌ {A = QueryReply} (Ok m) (Ok n) → m ≡ n
same_total m n e = cc

pub prior-answers : ((query-refuses-none P 3 rows_v 2 0 P-asked).0 seven long).0 ≡ 2
prior-answers =
    let w = (query-refuses-none P 3 rows_v 2 0 P-asked).0 seven long in
    same_total w.0 2 (sym w.1 ∙ two-kept)

pub prior-parts-answer : PartsAnswer P 3 rows_v 2 0
prior-parts-answer = (query-refuses-none P 3 rows_v 2 0 P-asked).1 (inr (inl P-prior))

-- ---- kind 18: BOTH of LOWEST 0 and AROUND 0, wish 0, over (1) (2) (-1)

abbrev B : List ℕ
B = lowest 0 ++ around 0 (pos 0) ++ both 0 1

abbrev ones : List ℤ
ones = pos 1 ∷ pos 2 ∷ minus 1 ∷ []

B-accepted : accepted B 1 ≡ true
unfolding opened
B-accepted = refl

B-records : record_count B ≡ 3
unfolding opened
B-records = refl

B-record : is_term (record_at B 2) ≡ true
unfolding opened
B-record = refl

B-both : kind_at B 2 ≡ 18
unfolding opened
B-both = refl

ones-fit : (fails_rows 1 ones ≡ false) × (fails_group 1 0 ≡ false) × (row_count 1 ones ≡ 3)
unfolding opened
ones-fit = (refl, refl, refl)

pub both-sentence : ThirdSentence B 1 ones 2 0
both-sentence =
    third-sentence B 1 ones 2 0
    (record {
      of_term = record { is_accepted = B-accepted; below = omega (arith, B-records); is_record = B-record };
      rows_fit = ones-fit.0;
      group_fits = ones-fit.1;
    })

both-two : OfTwoParts B 1 ones 2 0
both-two = both-sentence.of_two_parts (inr (inr B-both))

abbrev given : List ℕ → ℕ → ℕ → List ℕ
given table term group = query_buffer table 1 ones term group (0 ∷ 0 ∷ 0 ∷ [])

given-wrote : (table : List ℕ) (term group : ℕ) → Wrote table 1 ones term group (given table term group)
given-wrote table term group = record { before = 0 ∷ 0 ∷ 0 ∷ []; long = omega (arith, ones-fit.2); written = refl }

-- Where LOWEST goes before AROUND row 0 is dropped, as LOWEST drops it.
lowest-drops : get_or (given B (p_at B 2) 0) 0 1 ≡ 2
unfolding opened
lowest-drops = refl

pub both_left : Drops (given (left_first B 2) 2 0) 0
both_left k =
    let first = ((both-two.left_before.keeps_row (given (left_first B 2) 2 0) (given B (p_at B 2) 0)
    (given-wrote (left_first B 2) 2 0) (given-wrote B (p_at B 2) 0) 0 (omega (arith, ones-fit.2))).0 k).0 in
    omega (arith, lowest-drops)

-- The other way about it is kept, as AROUND keeps it and no row equals it; and so it is where the two rank equally.
around-keeps : Keeps (given B (q_at B 2) 0) 0 × Keeps (given B (p_at B 2) (bit_or 0 (columns_of (term_at B (q_at B 2))))) 0
unfolding opened
around-keeps = (refl, refl)

pub both_right : Keeps (given (right_first B 2) 2 0) 0
both_right =
    let before = both-two.right_before in
    let g = bit_or 0 (columns_of (term_at B (q_at B 2))) in
    (before.keeps_row (given (right_first B 2) 2 0) (given B (q_at B 2) 0) (given-wrote (right_first B 2) 2 0)
    (given-wrote B (q_at B 2) 0) 0 (omega (arith, ones-fit.2))).1 (
      around-keeps.0,
      (before.by_group (given B (p_at B 2) g) (given-wrote B (p_at B 2) g) 0 (omega (arith, ones-fit.2))).0
          around-keeps.1,
    )

pub both-equally : Keeps (given (equally B 2) 2 0) 0
both-equally =
    (both-two.ranked_equally (given (equally B 2) 2 0) (given (left_first B 2) 2 0) (given (right_first B 2) 2 0)
    (given-wrote (equally B 2) 2 0) (given-wrote (left_first B 2) 2 0) (given-wrote (right_first B 2) 2 0) 0
    (omega (arith, ones-fit.2))).1 (inr (inl both_right))

-- BOTH drops row 1, which names row 0.
row_one : (get_or (given B 2 0) 1 2 ≡ 0) × (get_or (given B 2 0) 1 0 ≡ 0)
unfolding opened
row_one = (refl, refl)

pub both-dropped : BeatenBy B 1 ones 2 0 1 0
both-dropped =
    let w = both-sentence.dropped (given B 2 0) (given-wrote B 2 0) 1 (omega (arith, ones-fit.2))
    (λ k. omega (arith, row_one.0)) in
    by-named B 1 ones 2 0 1 w.0 0 (sym w.3 ∙ row_one.1) w.1
