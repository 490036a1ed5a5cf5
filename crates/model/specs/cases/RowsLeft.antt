-- Our own cases, rows left out and two catalogues (SPECIFICATION, "Leaving out rows"). Assumes nothing.
use Rattle.std.specs.Prelude.{Bool, true, false, not, List, [], ◌∷◌, ◌++◌, map, ℕ, eqb, ℤ, pos, replicate}
use Rattle.model.specs.Search.{any_in, list_below}
use Rattle.model.specs.Query.{row_count}
use Rattle.model.specs.Leaving.{left_rows, old_number, kept_rows, by_catalogue}
use Rattle.model.specs.cases.Case.{Case, answers, says, counts, writes, reads}
use Rattle.model.specs.cases.Tables.{minus, wholes, lowest, pareto, T1, rows_v}

-- All rows but these.
abbrev but : List ℕ → ℕ → Bool
but out i = not (any_in out (λ k. eqb i k))

-- Without the rows `out` these rows are left; a query over them keeps so many and gives these entries, by their numbers now,
-- and by old numbers those.
abbrev left : List ℕ → ℕ → List ℤ → ℕ → ℕ → List ℕ → List ℤ → ℕ → List ℕ → List ℕ → List Case
left table columns rows term group out remaining kept entries by_old =
    reads (left_rows columns rows (but out)) remaining
    ∷ answers table columns remaining term group kept entries
    ∷ writes (map (old_number (row_count columns rows) (but out)) entries) by_old
    ∷ []

-- The rows that record `term` keeps, ungrouped.
abbrev keep : List ℕ → ℕ → ℕ → List ℤ → List ℤ → Case
keep table columns term rows kept = reads (kept_rows table columns rows term 0 (replicate (row_count columns rows) 0)) kept

-- Rows of V by their numbers.
abbrev V0 : List ℤ
V0 = minus 5 ∷ pos 3 ∷ pos 4 ∷ []

abbrev V1 : List ℤ
V1 = minus 5 ∷ pos 4 ∷ pos 4 ∷ []

abbrev V2 : List ℤ
V2 = pos 5 ∷ pos 1 ∷ pos 8 ∷ []

abbrev V3 : List ℤ
V3 = pos 5 ∷ pos 6 ∷ pos 6 ∷ []

abbrev V4 : List ℤ
V4 = minus 6 ∷ pos 0 ∷ pos 6 ∷ []

abbrev V5 : List ℤ
V5 = minus 6 ∷ pos 0 ∷ pos 4 ∷ []

abbrev V6 : List ℤ
V6 = pos 6 ∷ pos 2 ∷ pos 7 ∷ []

-- Rows (7,3) (7,1) (8,9) (7,2).
abbrev sevens : List ℤ
sevens = wholes (7 ∷ 3 ∷ 7 ∷ 1 ∷ 8 ∷ 9 ∷ 7 ∷ 2 ∷ [])

-- The rows that are left, in their old order, and their old numbers; all of them, and none.
unfoldable pub runs : List Case
runs =
    reads (left_rows 2 (wholes (1 ∷ 2 ∷ 3 ∷ 4 ∷ 5 ∷ 6 ∷ [])) (but (1 ∷ []))) (wholes (1 ∷ 2 ∷ 5 ∷ 6 ∷ []))
    ∷ reads (left_rows 2 (wholes (1 ∷ 2 ∷ 3 ∷ 4 ∷ [])) (but [])) (wholes (1 ∷ 2 ∷ 3 ∷ 4 ∷ []))
    ∷ reads (left_rows 2 (wholes (1 ∷ 2 ∷ 3 ∷ 4 ∷ [])) (but (1 ∷ 0 ∷ []))) []
    ∷ writes (list_below 7 (but (1 ∷ 4 ∷ []))) (0 ∷ 2 ∷ 3 ∷ 5 ∷ 6 ∷ [])
    ∷ counts (old_number 7 (but (1 ∷ 4 ∷ [])) 0) 0
    ∷ counts (old_number 7 (but (1 ∷ 4 ∷ [])) 3) 5
    -- A row's own catalogue: row 3 is row 0 of the second, where the first has three.
    ∷ says (by_catalogue 3 (eqb 2) (eqb 0) 2) true
    ∷ says (by_catalogue 3 (eqb 2) (eqb 0) 3) true
    ∷ says (by_catalogue 3 (eqb 2) (eqb 0) 0) false
    ∷ []

unfoldable pub left_out : List Case
left_out =
    -- T1's top over V answers 0 0 2 2 4 4 2. Without row 1, without all dropped rows, without two of them.
    left T1 3 rows_v 4 0 (1 ∷ []) (V0 ++ V2 ++ V3 ++ V4 ++ V5 ++ V6) 3 (0 ∷ 1 ∷ 1 ∷ 3 ∷ 3 ∷ 1 ∷ [])
    (0 ∷ 2 ∷ 2 ∷ 4 ∷ 4 ∷ 2 ∷ [])
    ++ left T1 3 rows_v 4 0 (1 ∷ 3 ∷ 5 ∷ 6 ∷ []) (V0 ++ V2 ++ V4) 3 (0 ∷ 1 ∷ 2 ∷ []) (0 ∷ 2 ∷ 4 ∷ [])
    ++ left T1 3 rows_v 4 0 (3 ∷ 6 ∷ []) (V0 ++ V1 ++ V2 ++ V4 ++ V5) 3 (0 ∷ 0 ∷ 2 ∷ 3 ∷ 3 ∷ []) (0 ∷ 0 ∷ 2 ∷ 4 ∷ 4 ∷ [])
    -- LOWEST over 3 2 1 2, where every row names row 2: without row 1. Over 2 1, where both name row 1: without none.
    ++ left (lowest 0) 1 (wholes (3 ∷ 2 ∷ 1 ∷ 2 ∷ [])) 0 0 (1 ∷ []) (wholes (3 ∷ 1 ∷ 2 ∷ [])) 1 (1 ∷ 1 ∷ 1 ∷ [])
    (2 ∷ 2 ∷ 2 ∷ [])
    ++ left (lowest 0) 1 (wholes (2 ∷ 1 ∷ [])) 0 0 [] (wholes (2 ∷ 1 ∷ [])) 1 (1 ∷ 1 ∷ []) (1 ∷ 1 ∷ [])
    -- LOWEST of column 1 in the groups of column 0 answers 1 1 2 1: without row 0.
    ++ left (lowest 1) 2 sevens 0 1 (0 ∷ []) (wholes (7 ∷ 1 ∷ 8 ∷ 9 ∷ 7 ∷ 2 ∷ [])) 2 (0 ∷ 1 ∷ 0 ∷ []) (1 ∷ 2 ∷ 1 ∷ [])
    -- LOWEST of both columns, ranking equally, over (2,2) (1,3) (1,1) (3,1): all name row 2, also without row 1.
    ++ left (lowest 0 ++ lowest 1 ++ pareto 0 1) 2 (wholes (2 ∷ 2 ∷ 1 ∷ 3 ∷ 1 ∷ 1 ∷ 3 ∷ 1 ∷ [])) 2 0 (1 ∷ [])
    (wholes (2 ∷ 2 ∷ 1 ∷ 1 ∷ 3 ∷ 1 ∷ [])) 1 (1 ∷ 1 ∷ 1 ∷ []) (2 ∷ 2 ∷ 2 ∷ [])
    -- Not claimed of a kept row: LOWEST over 1 2 answers 0 0; without row 0, row 1 is kept.
    ++ left (lowest 0) 1 (wholes (1 ∷ 2 ∷ [])) 0 0 (0 ∷ []) (wholes (2 ∷ [])) 1 (0 ∷ []) (1 ∷ [])

unfoldable pub merges : List Case
merges =
    -- The rows that are kept, in groups and ungrouped.
    reads (kept_rows (lowest 1) 2 sevens 0 1 (9 ∷ 9 ∷ 9 ∷ 9 ∷ [])) (wholes (7 ∷ 1 ∷ 8 ∷ 9 ∷ []))
    ∷ keep (lowest 1) 2 0 sevens (wholes (7 ∷ 1 ∷ []))
    -- Equal rows, one in each catalogue, both stay: LOWEST, 3 1 2 and 1 4, their kept rows together, and all at once.
    ∷ keep (lowest 0) 1 0 (wholes (3 ∷ 1 ∷ 2 ∷ [])) (wholes (1 ∷ []))
    ∷ keep (lowest 0) 1 0 (wholes (1 ∷ 4 ∷ [])) (wholes (1 ∷ []))
    ∷ keep (lowest 0) 1 0 (wholes (1 ∷ 1 ∷ [])) (wholes (1 ∷ 1 ∷ []))
    ∷ keep (lowest 0) 1 0 (wholes (3 ∷ 1 ∷ 2 ∷ 1 ∷ 4 ∷ [])) (wholes (1 ∷ 1 ∷ []))
    -- T1's top over the first three rows of V and over the other four, their kept rows together, and V at once.
    ∷ keep T1 3 4 (V0 ++ V1 ++ V2) (V0 ++ V2)
    ∷ keep T1 3 4 (V3 ++ V4 ++ V5 ++ V6) (V3 ++ V4 ++ V6)
    ∷ keep T1 3 4 (V0 ++ V2 ++ V3 ++ V4 ++ V6) (V0 ++ V2 ++ V4)
    ∷ keep T1 3 4 rows_v (V0 ++ V2 ++ V4)
    -- An empty catalogue; and one whose kept row, 2, the other's betters.
    ∷ keep (lowest 0) 1 0 [] []
    ∷ keep (lowest 0) 1 0 (wholes (3 ∷ 2 ∷ [])) (wholes (2 ∷ []))
    ∷ keep (lowest 0) 1 0 (wholes (2 ∷ 1 ∷ [])) (wholes (1 ∷ []))
    ∷ []

unfoldable pub rows_left : List Case
rows_left = runs ++ merges ++ left_out
