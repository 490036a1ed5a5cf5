-- Our own cases, what Check turns down: each number of 1 to 14 with its place, and the order between two that one table
-- can earn at once (SPECIFICATION, "What a call refuses"). Assumes nothing.
use Rattle.std.specs.Prelude.{List, [], ◌∷◌, ◌++◌, ℕ, pos}
use Rattle.model.specs.Words.{Refusal}
use Rattle.model.specs.Replies.{unplaced, placed}
use Rattle.model.specs.cases.Case.{Case, accepts, refuses, judges}
use Rattle.model.specs.cases.Tables.{minus, rec, lowest, highest, around, between, pos_set, neg_set, pos_neg, pos_pos}
use Rattle.model.specs.cases.Tables.{explicit, any, favourite, disliked, second, edge, pareto, prior, both, dual}
use Rattle.model.specs.cases.Tables.{copies}

-- A value 1 of that role.
abbrev role : ℕ → List ℕ
role p = rec 0 p 0 (pos 1) (pos 0)

-- The role is not taken after that term.
abbrev strays : List ℕ → ℕ → Case
strays term p = refuses (term ++ role p) 1 (placed 8 1) (Refusal.Stray 1)

-- What a changed definition meets first.
unfoldable pub stopped : List Case
stopped =
    -- AROUND with column 8 and v = 1: FILLER before COLUMN.
    refuses (rec 3 8 0 (pos 0) (pos 1)) 8 (placed 4 0) (Refusal.Filler 0)
    -- 129 records, all of kind 11: LENGTH before KIND.
    ∷ refuses (copies 129 (rec 11 0 0 (pos 0) (pos 0))) 1 (unplaced 2) Refusal.Length
    ∷ []

unfoldable pub refused : List Case
refused =
    -- 1 WIDTH: 0, 9 and 264 columns; 1 and 8 pass. WIDTH goes before LENGTH.
    refuses (lowest 0) 0 (unplaced 1) Refusal.Width
    ∷ refuses (lowest 0) 9 (unplaced 1) Refusal.Width
    ∷ refuses [] 264 (unplaced 1) Refusal.Width
    ∷ accepts (lowest 0) 8 1 0 1 1
    -- 2 LENGTH: no bytes, a byte more or less than a record. LENGTH goes before KIND: the last has kind 11.
    ∷ refuses [] 8 (unplaced 2) Refusal.Length
    ∷ refuses (lowest 0 ++ (0 ∷ [])) 1 (unplaced 2) Refusal.Length
    ∷ refuses (copies 11 (11 ∷ [])) 1 (unplaced 2) Refusal.Length
    -- 3 KIND: 11, 15, 20 and 255.
    ∷ refuses (rec 11 0 0 (pos 0) (pos 0)) 1 (placed 3 0) (Refusal.Kind 0)
    ∷ refuses (lowest 0 ++ rec 15 0 0 (pos 0) (pos 0)) 1 (placed 3 1) (Refusal.Kind 1)
    ∷ refuses (rec 20 0 0 (pos 0) (pos 0)) 1 (placed 3 0) (Refusal.Kind 0)
    ∷ refuses (rec 255 9 9 (pos 9) (pos 9)) 1 (placed 3 0) (Refusal.Kind 0)
    -- 4 FILLER stands in `fillers`. DUAL of itself with q: before PART. An edge under POS with q: before STRAY.
    ∷ refuses (rec 19 0 1 (pos 0) (pos 0)) 1 (placed 4 0) (Refusal.Filler 0)
    ∷ refuses (pos_set 0 ++ rec 0 4 1 (pos 1) (pos 2)) 1 (placed 4 1) (Refusal.Filler 1)
    -- 5 COLUMN: column 3 of three; column 2 passes. BETWEEN with low above up too: COLUMN before BOUNDS.
    ∷ refuses (lowest 3) 3 (placed 5 0) (Refusal.Column 0)
    ∷ accepts (lowest 2) 3 1 0 4 1
    ∷ refuses (any 0 ++ explicit 255) 8 (placed 5 1) (Refusal.Column 1)
    ∷ refuses (between 1 (pos 2) (pos 1)) 1 (placed 5 0) (Refusal.Column 0)
    -- 6 PART: itself, the right part itself, a record after it, a value, on either side.
    ∷ refuses (dual 0) 1 (placed 6 0) (Refusal.Part 0)
    ∷ refuses (lowest 0 ++ pareto 0 1) 1 (placed 6 1) (Refusal.Part 1)
    ∷ refuses (lowest 0 ++ dual 2 ++ lowest 0) 1 (placed 6 1) (Refusal.Part 1)
    ∷ refuses (pos_set 0 ++ favourite 1 ++ dual 1) 1 (placed 6 2) (Refusal.Part 2)
    ∷ refuses (pos_set 0 ++ favourite 1 ++ prior 0 1) 1 (placed 6 2) (Refusal.Part 2)
    ∷ refuses (pos_set 0 ++ favourite 1 ++ prior 1 0) 1 (placed 6 2) (Refusal.Part 2)
    -- The left reused and the right no term: PART before REUSED. A value as a part of BOTH: PART before APART.
    ∷ refuses (lowest 0 ++ lowest 0 ++ pareto 0 1 ++ pareto 0 3) 1 (placed 6 3) (Refusal.Part 3)
    ∷ refuses (pos_set 1 ++ favourite 1 ++ both 0 1) 2 (placed 6 2) (Refusal.Part 2)
    -- 7 REUSED: the one part, the left, the right, both the same.
    ∷ refuses (lowest 0 ++ dual 0 ++ dual 0) 1 (placed 7 2) (Refusal.Reused 2)
    ∷ refuses (lowest 0 ++ dual 0 ++ lowest 0 ++ pareto 0 2) 1 (placed 7 3) (Refusal.Reused 3)
    ∷ refuses (lowest 0 ++ dual 0 ++ lowest 0 ++ pareto 2 0) 1 (placed 7 3) (Refusal.Reused 3)
    ∷ refuses (lowest 0 ++ lowest 0 ++ pareto 0 1 ++ lowest 0 ++ prior 3 1) 1 (placed 7 4) (Refusal.Reused 4)
    ∷ refuses (lowest 0 ++ prior 0 0) 1 (placed 7 1) (Refusal.Reused 1)
    -- A BOTH with a reused part of another column: REUSED before APART.
    ∷ refuses (lowest 0 ++ dual 0 ++ lowest 1 ++ both 0 2) 2 (placed 7 3) (Refusal.Reused 3)
    -- 8 STRAY: no term before; a role not taken, under every kind of term. v of role 4 is no FILLER.
    ∷ refuses (favourite 1 ++ pos_set 0) 1 (placed 8 0) (Refusal.Stray 0)
    ∷ refuses (pos_set 0 ++ edge 1 2) 1 (placed 8 1) (Refusal.Stray 1)
    ∷ strays (lowest 0) 1
    ∷ strays (highest 0) 2
    ∷ strays (around 0 (pos 0)) 1
    ∷ strays (between 0 (pos 0) (pos 0)) 3
    ∷ strays (pos_set 0) 0
    ∷ strays (pos_set 0) 2
    ∷ strays (pos_set 0) 3
    ∷ strays (neg_set 0) 1
    ∷ strays (neg_set 0) 3
    ∷ strays (neg_set 0) 4
    ∷ strays (pos_neg 0) 3
    ∷ strays (pos_neg 0) 4
    ∷ strays (pos_pos 0) 2
    ∷ strays (pos_pos 0) 4
    ∷ strays (explicit 0) 1
    ∷ strays (explicit 0) 2
    ∷ strays (explicit 0) 3
    ∷ strays (explicit 0) 9
    ∷ strays (any 0) 4
    ∷ refuses (lowest 0 ++ dual 0 ++ role 1) 1 (placed 8 2) (Refusal.Stray 2)
    ∷ refuses (lowest 0 ++ lowest 0 ++ prior 0 1 ++ role 4) 1 (placed 8 3) (Refusal.Stray 3)
    -- After another value's term: the nearest term before is what counts.
    ∷ refuses (pos_set 0 ++ favourite 1 ++ neg_set 0 ++ favourite 1) 1 (placed 8 3) (Refusal.Stray 3)
    -- The 17th value with a role not taken: STRAY before CROWD. The same value in a role not taken: before CLASH. An edge
    -- (1,1) under POS: before LOOP.
    ∷ refuses (pos_set 0 ++ copies 16 (favourite 5) ++ disliked 5) 1 (placed 8 17) (Refusal.Stray 17)
    ∷ refuses (pos_neg 0 ++ favourite 1 ++ second 1) 1 (placed 8 2) (Refusal.Stray 2)
    ∷ refuses (pos_set 0 ++ edge 1 1) 1 (placed 8 1) (Refusal.Stray 1)
    -- 9 CROWD: a term's 17th value, at 17. It clashes too: CROWD before CLASH.
    ∷ refuses (pos_neg 0 ++ copies 16 (favourite 5) ++ disliked 5) 1 (placed 9 17) (Refusal.Crowd 17)
    -- A 17th edge from a value to itself: CROWD before LOOP.
    ∷ judges (explicit 0 ++ copies 16 (edge 1 2) ++ edge 7 7) 1 17 (placed 9 17) (Refusal.Crowd 17)
    -- 10 CLASH: either role first, POS/NEG and POS/POS, with other values between.
    ∷ refuses (pos_neg 0 ++ disliked 5 ++ favourite 5) 1 (placed 10 2) (Refusal.Clash 2)
    ∷ refuses (pos_pos 0 ++ favourite 5 ++ second 5) 1 (placed 10 2) (Refusal.Clash 2)
    ∷ refuses (pos_pos 0 ++ second 5 ++ second 6 ++ favourite 7 ++ favourite 5) 1 (placed 10 4) (Refusal.Clash 4)
    -- 11 LOOP: three edges in a ring; an edge from a value to itself after others; not two edges to one value.
    ∷ refuses (explicit 0 ++ edge 1 2 ++ edge 2 3 ++ edge 3 1) 1 (placed 11 3) (Refusal.Loop 3)
    ∷ refuses (explicit 0 ++ edge 2 3 ++ edge 1 2 ++ edge 3 1) 1 (placed 11 3) (Refusal.Loop 3)
    ∷ refuses (explicit 0 ++ edge 1 2 ++ edge 7 7) 1 (placed 11 2) (Refusal.Loop 2)
    ∷ accepts (explicit 0 ++ edge 1 2 ++ edge 3 2 ++ edge 1 3) 1 4 0 1 1
    -- 12 BOUNDS: low = up + 1, also below zero and at the ends.
    ∷ refuses (between 0 (pos 8) (pos 7)) 1 (placed 12 0) (Refusal.Bounds 0)
    ∷ refuses (any 0 ++ between 0 (minus 4) (minus 5)) 1 (placed 12 1) (Refusal.Bounds 1)
    ∷ refuses (between 0 (pos 2147483647) (minus 2147483648)) 1 (placed 12 0) (Refusal.Bounds 0)
    -- 13 APART: different columns, a proper subset either way. PARETO and PRIOR of different columns pass.
    ∷ refuses (lowest 0 ++ lowest 1 ++ both 0 1) 2 (placed 13 2) (Refusal.Apart 2)
    ∷ refuses (lowest 0 ++ lowest 0 ++ lowest 1 ++ pareto 1 2 ++ both 0 3) 2 (placed 13 4) (Refusal.Apart 4)
    ∷ refuses (lowest 0 ++ lowest 0 ++ lowest 1 ++ pareto 1 2 ++ both 3 0) 2 (placed 13 4) (Refusal.Apart 4)
    ∷ accepts (lowest 0 ++ lowest 1 ++ pareto 0 1) 2 3 2 3 2
    -- 14 LOOSE: the lowest such record; not the last term, values after it or not.
    ∷ refuses (lowest 0 ++ lowest 0 ++ lowest 0) 1 (placed 14 0) (Refusal.Loose 0)
    ∷ refuses (lowest 0 ++ pos_set 0 ++ favourite 1 ++ lowest 0 ++ dual 0) 1 (placed 14 1) (Refusal.Loose 1)
    ∷ refuses (lowest 0 ++ pos_set 0 ++ favourite 1) 1 (placed 14 0) (Refusal.Loose 0)
    -- Records from 0 upward: COLUMN of record 0 before KIND of record 1; every record before LOOSE.
    ∷ refuses (lowest 3 ++ rec 11 0 0 (pos 0) (pos 0)) 3 (placed 5 0) (Refusal.Column 0)
    ∷ refuses (lowest 0 ++ lowest 0 ++ lowest 1 ++ both 1 2) 2 (placed 13 3) (Refusal.Apart 3)
    ∷ []
