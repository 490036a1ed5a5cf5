-- The third signed sentence needs its last clause on ranking equally (the specification: PARETO of LOWEST 0 and LOWEST
-- 1 keeps (3,3) of the rows (1,5) (5,1) (3,3), though it is beaten under both placings). Assumes nothing.
use Rattle.std.specs.Prelude.{◌≡◌, refl, ◌⊎◌, ◌↔◌, true, false, List, [], ◌∷◌, ◌++◌, ℕ, ◌<◌, ℤ, get_or}
use Rattle.std.proofs.Common.{inl, ⊎_elim, arith}
use Rattle.model.specs.Record.{record_count, record_at, kind_at, is_term}
use Rattle.model.specs.Query.{row_count, fails_rows, fails_group, query_buffer}
use Rattle.model.specs.Demand.{accepted, left_first, right_first, equally}
use Rattle.model.specs.cases.Opened.{opened}
use Rattle.model.specs.cases.Tables.{wholes, lowest, pareto}
use Rattle.theorems.specs.Asked.{Asked, TwoParts}
use Rattle.theorems.specs.ThirdSentence.{Wrote, Keeps, Drops}

-- LOWEST 0, LOWEST 1, and PARETO of the two; and the rows.
abbrev pub two_lowest : List ℕ
two_lowest = lowest 0 ++ lowest 1 ++ pareto 0 1

abbrev pub three_rows : List ℤ
three_rows = wholes (1 ∷ 5 ∷ 5 ∷ 1 ∷ 3 ∷ 3 ∷ [])

is-accepted : accepted two_lowest 2 ≡ true
unfolding opened
is-accepted = refl

three-records : record_count two_lowest ≡ 3
unfolding opened
three-records = refl

is-record : is_term (record_at two_lowest 2) ≡ true
unfolding opened
is-record = refl

pub is-pareto : kind_at two_lowest 2 ≡ 16
unfolding opened
is-pareto = refl

rows_fit : fails_rows 2 three_rows ≡ false
unfolding opened
rows_fit = refl

group-fits : fails_group 2 0 ≡ false
unfolding opened
group-fits = refl

pub is-three : row_count 2 three_rows ≡ 3
unfolding opened
is-three = refl

pub two-lowest-asked : Asked two_lowest 2 three_rows 2 0
two-lowest-asked =
    record {
      of_term = record { is_accepted = is-accepted; below = omega (arith, three-records); is_record = is-record };
      rows_fit = rows_fit;
      group_fits = group-fits;
    }

-- What Query writes for record 2 of a table, in a buffer for three rows.
abbrev pub written : List ℕ → List ℕ
written table = query_buffer table 2 three_rows 2 0 (0 ∷ 0 ∷ 0 ∷ [])

pub wrote : (table : List ℕ) → Wrote table 2 three_rows 2 0 (written table)
wrote table = record { before = 0 ∷ 0 ∷ 0 ∷ []; long = omega (arith, is-three); written = refl }

-- The third row is kept,
pub third-kept : Keeps (written (equally two_lowest 2)) 2
unfolding opened
third-kept = refl

-- though under the left placing it is dropped by row 0,
by_zero : get_or (written (left_first two_lowest 2)) 2 3 ≡ 0
unfolding opened
by_zero = refl

pub not_left : Drops (written (left_first two_lowest 2)) 2
not_left e = omega (arith, by_zero)

-- and under the right one by row 1.
by_one : get_or (written (right_first two_lowest 2)) 2 3 ≡ 1
unfolding opened
by_one = refl

pub not_right : Drops (written (right_first two_lowest 2)) 2
not_right e = omega (arith, by_one)

-- So "exactly when at least one of the two placings keeps it" is false.
pub third-clause-needed :
    ((table : List ℕ) (columns : ℕ) (rows : List ℤ) (k group : ℕ) → Asked table columns rows k group
    → TwoParts table k → (a b c : List ℕ) → Wrote (equally table k) columns rows k group a
    → Wrote (left_first table k) columns rows k group b → Wrote (right_first table k) columns rows k group c
    → (i : ℕ) → i < row_count columns rows → Keeps a i ↔ (Keeps b i ⊎ Keeps c i))
    → ⊥
third-clause-needed law =
    ⊎_elim not_left not_right
    ((law two_lowest 2 three_rows 2 0 two-lowest-asked (inl is-pareto) (written (equally two_lowest 2))
    (written (left_first two_lowest 2)) (written (right_first two_lowest 2)) (wrote (equally two_lowest 2))
    (wrote (left_first two_lowest 2)) (wrote (right_first two_lowest 2)) 2 (omega (arith, is-three))).0 third-kept)
