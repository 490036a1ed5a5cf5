-- Chains (SPECIFICATION, "Chains"), and the words of the third signed sentence ("The third promise, word by word").
use Rattle.std.specs.Prelude.{◌&&◌, ◌+◌, ◌*◌}
use Rattle.model.specs.Words.{Bool, true, false, ℕ, suc, List, eqb, ℤ, get_or, set, Lowest, Highest, Around, Between, Pos, Neg, PosNeg, PosPos, Explicit, Any, Pareto, Prior, Both}
use Rattle.model.specs.Record.{p_at, q_at}
use Rattle.model.specs.Term.{Term, term_at, base, pair, dual}
use Rattle.model.specs.Better.{equal}
use Rattle.model.specs.Check.{by_verdict, table_verdict}
use Rattle.model.specs.Query.{kept, row_count, row_at, beats_in, query_buffer}

-- Chain (the specification's term): a term is one if it is LOWEST, HIGHEST, DUAL of a chain, or PRIOR of two chains.
unfoldable pub is_chain : Term → Bool
is_chain (base column Lowest values) = true
is_chain (base column Highest values) = true
is_chain (base column (Around wish) values) = false
is_chain (base column (Between low up) values) = false
is_chain (base column Pos values) = false
is_chain (base column Neg values) = false
is_chain (base column PosNeg values) = false
is_chain (base column PosPos values) = false
is_chain (base column Explicit values) = false
is_chain (base column Any values) = false
is_chain (pair Pareto l r) = false
is_chain (pair Prior l r) = is_chain l && is_chain r
is_chain (pair Both l r) = false
is_chain (dual t) = is_chain t

-- Accepted (the specification's term): a table is accepted when Check with the column count refuses nothing.
unfoldable pub accepted : List ℕ → ℕ → Bool
accepted table columns = by_verdict (table_verdict table columns) (λ why. false) true

-- The table with this kind, p and q in record k. All other bytes stay.
unfoldable pub rewritten : List ℕ → ℕ → ℕ → ℕ → ℕ → List ℕ
rewritten table k kind p q = set (set (set table (12 * k) kind) (12 * k + 1) p) (12 * k + 2) q

-- Placing (the specification's term): its two placings are the table with 17 as that record's kind, p and q once as
-- they stand
unfoldable pub left_first : List ℕ → ℕ → List ℕ
left_first table k = rewritten table k 17 (p_at table k) (q_at table k)

-- and once exchanged.
unfoldable pub right_first : List ℕ → ℕ → List ℕ
right_first table k = rewritten table k 17 (q_at table k) (p_at table k)

-- Ranking equally (the specification's term) is the table with 16 there.
unfoldable pub equally : List ℕ → ℕ → List ℕ
equally table k = rewritten table k 16 (p_at table k) (q_at table k)

-- Keeps (the specification's term): Query gives row i the entry i.
unfoldable pub keeps : List ℕ → ℕ → List ℤ → ℕ → ℕ → List ℕ → ℕ → Bool
keeps table columns rows term group before i =
    eqb (get_or (query_buffer table columns rows term group before) i (suc i)) i

-- Keeps among the rows equal in the first's columns: no row of the set that equals the row in those columns is better
-- under the second. (Beaten by a row under a term: `beats_in`.)
unfoldable pub keeps_among : List ℕ → ℕ → List ℤ → ℕ → ℕ → ℕ → ℕ → Bool
keeps_among table columns rows first second group =
    kept (row_count columns rows)
    (λ j i. equal (term_at table first) (row_at columns rows i) (row_at columns rows j)
    && beats_in (term_at table second) columns rows group j i)
