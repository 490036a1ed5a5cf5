-- The theorems of src/leaving.rt on table T1 and rows V of the specification ("Worked cases"), with every hypothesis
-- computed, or proved where it is that the order is strict: none of them is empty. Assumes nothing.
use Rattle.std.specs.Prelude.{◌≡◌, refl, Bool, true, false, not, ◌&&◌, List, [], ◌∷◌, ℕ, ◌%◌, ◌<◌, eqb, ℤ, pos, length}
use Rattle.std.proofs.Common.{sym, ◌∙◌, ap, ⊎_elim, arith}
use Rattle.std.proofs.lemmas.Bool.{false≢true}
use Rattle.model.specs.Search.{any_below, any_in}
use Rattle.model.specs.Term.{term_at}
use Rattle.model.specs.Query.{kept, row_count, beats_in, fails_rows, fails_group}
use Rattle.model.specs.Demand.{keeps}
use Rattle.model.specs.Leaving.{left_rows, kept_rows}
use Rattle.model.specs.cases.Opened.{opened}
use Rattle.model.specs.cases.Tables.{minus, T1, rows_v}
use Rattle.laws.specs.Bools.{and_i, on-or-off}
use Rattle.laws.specs.Order.{Rel, Strict}
use Rattle.laws.specs.Search.{none-e}
use Rattle.laws.specs.Rows.{beats-strict}
use Rattle.laws.specs.Leaving.{rows_of_all, kept_in_own}
use Rattle.laws.specs.Merged.{worse_in}
use Rattle.laws.specs.Catalogues.{kept_of_run, joined, kept_of_each_run, merge-all}
use Rattle.theorems.specs.Asked.{Asked}
use Rattle.theorems.specs.LeftOut.{SameAnswers, SameAnswersOf, together, kept_apart}
use Rattle.theorems.proofs.LeavingLaws.{query-asked, order-strict, kept-rows-order, leaving-out, left-out-of, merged-of}
use Rattle.theorems.proofs.Merged.{merged_keeps}
use Rattle.theorems.specs.Instances.{seven, rows_fit, group-fits, long, lowest, top}

-- Every kept row stays, by a test that is computed.
all_stay : (n : ℕ) (keep stay : ℕ → Bool) → any_below n (λ k. keep k && not (stay k)) ≡ false
    → (k : ℕ) → k < n → keep k ≡ true → stay k ≡ true
all_stay n keep stay e k h q =
    ⊎_elim
    (λ s. s)
    (λ s. absurd (false≢true (sym (none-e n (λ k. keep k && not (stay k)) e k h) ∙ and_i q (ap not s))))
    (on-or-off (stay k))

-- All rows but one.
abbrev but : ℕ → ℕ → Bool
but out i = not (eqb i out)

-- ---- a row taken out

top-asked : Asked T1 3 rows_v 4 0
top-asked = record { of_term = top; rows_fit = rows_fit; group_fits = group-fits }

-- The top over V: row 1 is dropped.
row-1-drops : any_below (row_count 3 rows_v) (λ k. keeps T1 3 rows_v 4 0 seven k && not (but 1 k)) ≡ false
unfolding opened
row-1-drops = refl

room-for-six : row_count 3 (left_rows 3 rows_v (but 1)) ≡ 6
unfolding opened
room-for-six = refl

pub plain : SameAnswers T1 3 rows_v 4 0 (but 1) seven seven
plain =
    leaving-out T1 3 rows_v 4 0 top-asked (but 1) seven seven long (omega (arith, room-for-six))
    (all_stay (row_count 3 rows_v) (keeps T1 3 rows_v 4 0 seven) (but 1) row-1-drops)

-- Record 1 over V in the groups of column 0: row 3 is dropped.
grouped-fits : fails_group 3 1 ≡ false
unfolding opened
grouped-fits = refl

row-3-drops : any_below (row_count 3 rows_v) (λ k. keeps T1 3 rows_v 1 1 seven k && not (but 3 k)) ≡ false
unfolding opened
row-3-drops = refl

room-for-others : row_count 3 (left_rows 3 rows_v (but 3)) ≡ 6
unfolding opened
room-for-others = refl

pub grouped : SameAnswers T1 3 rows_v 1 1 (but 3) seven seven
grouped =
    leaving-out T1 3 rows_v 1 1 (record { of_term = lowest; rows_fit = rows_fit; group_fits = grouped-fits }) (but 3) seven seven
    long (omega (arith, room-for-others))
    (all_stay (row_count 3 rows_v) (keeps T1 3 rows_v 1 1 seven) (but 3) row-3-drops)

-- ---- two catalogues: rows 0 to 2 of V, and rows 3 to 6

abbrev three : List ℤ
three =
    minus 5 ∷ pos 3 ∷ pos 4
    ∷ minus 5 ∷ pos 4 ∷ pos 4
    ∷ pos 5 ∷ pos 1 ∷ pos 8
    ∷ []

abbrev four : List ℤ
four =
    pos 5 ∷ pos 6 ∷ pos 6
    ∷ minus 6 ∷ pos 0 ∷ pos 6
    ∷ minus 6 ∷ pos 0 ∷ pos 4
    ∷ pos 6 ∷ pos 2 ∷ pos 7
    ∷ []

three_rows : row_count 3 three ≡ 3
unfolding opened
three_rows = refl

four-rows : row_count 3 four ≡ 4
unfolding opened
four-rows = refl

three-fit : fails_rows 3 three ≡ false
unfolding opened
three-fit = refl

four-fit : fails_rows 3 four ≡ false
unfolding opened
four-fit = refl

five-together : row_count 3 (together T1 3 three four 4 0 seven seven) ≡ 5
unfolding opened
five-together = refl

pub two-catalogues : Asked T1 3 rows_v 4 0
    × (kept_rows T1 3 (together T1 3 three four 4 0 seven seven) 4 0 seven ≡ kept_rows T1 3 rows_v 4 0 seven)
    × (together T1 3 three four 4 0 seven seven ≡ left_rows 3 rows_v (kept_apart T1 3 three four 4 0 seven seven))
    × SameAnswers T1 3 rows_v 4 0 (kept_apart T1 3 three four 4 0 seven seven) seven seven
two-catalogues =
    merged_keeps T1 3 three four 4 0 (record { of_term = top; rows_fit = three-fit; group_fits = group-fits })
    (record { of_term = top; rows_fit = four-fit; group_fits = group-fits })
    (omega (arith, three_rows, four-rows)) seven seven (omega (arith, three_rows)) (omega (arith, four-rows))
    seven seven long (omega (arith, five-together))

-- Record 1, in the groups of column 0.
six-together : row_count 3 (together T1 3 three four 1 1 seven seven) ≡ 6
unfolding opened
six-together = refl

pub grouped-catalogues : Asked T1 3 rows_v 1 1
    × (kept_rows T1 3 (together T1 3 three four 1 1 seven seven) 1 1 seven ≡ kept_rows T1 3 rows_v 1 1 seven)
    × (together T1 3 three four 1 1 seven seven ≡ left_rows 3 rows_v (kept_apart T1 3 three four 1 1 seven seven))
    × SameAnswers T1 3 rows_v 1 1 (kept_apart T1 3 three four 1 1 seven seven) seven seven
grouped-catalogues =
    merged_keeps T1 3 three four 1 1 (record { of_term = lowest; rows_fit = three-fit; group_fits = grouped-fits })
    (record { of_term = lowest; rows_fit = four-fit; group_fits = grouped-fits })
    (omega (arith, three_rows, four-rows)) seven seven (omega (arith, three_rows)) (omega (arith, four-rows))
    seven seven long (omega (arith, six-together))

-- ---- any rows, any relation: those of the top over V

abbrev worse : Rel (List ℤ)
worse = worse_in (term_at T1 4) 0

worse-is-strict : Strict worse
worse-is-strict = order-strict T1 3 rows_v 4 0 top-asked

abbrev beats : Rel ℕ
beats = beats_in (term_at T1 4) 3 rows_v 0

beats-is-strict : Strict beats
beats-is-strict = beats-strict 3 rows_v 0 (term_at T1 4) (query-asked T1 3 rows_v 4 0 top-asked seven long).strict

row-1-is-dropped : any_below 7 (λ k. kept 7 beats k && not (but 1 k)) ≡ false
unfolding opened
row-1-is-dropped = refl

pub any-rows : SameAnswersOf 7 beats (but 1)
any-rows = left-out-of 7 beats beats-is-strict (but 1) (all_stay 7 (kept 7 beats) (but 1) row-1-is-dropped)

-- Catalogues of 3 and 4 rows, and a third of none.
pub any-catalogues :
    ((k : ℕ) → k < rows_of_all (3 ∷ 4 ∷ 0 ∷ []) → kept (rows_of_all (3 ∷ 4 ∷ 0 ∷ [])) beats k ≡ true
    → kept_in_own (3 ∷ 4 ∷ 0 ∷ []) beats k ≡ true)
    × SameAnswersOf (rows_of_all (3 ∷ 4 ∷ 0 ∷ [])) beats (kept_in_own (3 ∷ 4 ∷ 0 ∷ []) beats)
any-catalogues = merged-of (3 ∷ 4 ∷ 0 ∷ []) beats beats-is-strict

all_whole : any_in (three ∷ four ∷ [] ∷ []) (λ rows. not (eqb (length rows % 3) 0)) ≡ false
unfolding opened
all_whole = refl

pub any_runs : kept_of_run worse 3 (kept_of_each_run worse 3 (three ∷ four ∷ [] ∷ [])) ≡ kept_of_run worse 3 (joined (three ∷ four ∷ [] ∷ []))
any_runs = merge-all 3 (omega arith) worse worse-is-strict (three ∷ four ∷ [] ∷ []) all_whole

pub by_order : Strict worse × (kept_rows T1 3 rows_v 4 0 seven ≡ kept_of_run worse 3 rows_v)
by_order = kept-rows-order T1 3 rows_v 4 0 top-asked seven long
