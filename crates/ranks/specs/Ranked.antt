-- The ranks of n rows under the marked base records, by block: block b, then record, then lane. Row b * 64 + j is lane j of
-- block b. A block takes `stride` entries, 64 for each record.
use Rattle.std.specs.Prelude.{◌≡◌, Bool, true, false, List, ℕ, ◌+◌, ◌*◌, ◌<◌, ◌≤◌, ℤ, pos, get_or}
use Rattle.model.specs.declared.{BaseTerm.BaseTerm}
use Rattle.model.specs.declared.Record.TheVariants.{Base}
use Rattle.model.specs.Record.{record_at}
use Rattle.model.specs.Better.{cell}
use Rattle.model.specs.Query.{row_at}
use Rattle.laws.specs.Taken.{TakenTerm}
use Rattle.terms.specs.Prepared.{RunEnds}
use Rattle.rows.specs.Values.{Room}
use Rattle.ranks.specs.Rank.{RankAt}

-- The marked base records below k have their ranks.
pub record Ranked (table ends : List ℕ) (marks : List Bool) (columns : ℕ) (rows : List ℤ) (n stride k : ℕ)
    (ranks : List ℤ) : Type 0 where
  pub each : (b j h column : ℕ) (t : BaseTerm) → j < 64 → b * 64 + j < n → h < k → get_or marks h false ≡ true
      → record_at table h ≡ Base column t
      → RankAt table h (get_or ends h 0) t (cell (row_at columns rows (b * 64 + j)) column)
      (get_or ranks (b * stride + h * 64 + j) (pos 0))

-- What the ranks are made for, and where they go.
pub record Rankable (table ends : List ℕ) (term columns n stride size : ℕ) : Type 0 where
  pub taken : TakenTerm table columns term
  pub runs : RunEnds table ends
  pub wide : term * 64 + 64 ≤ stride
  pub room : Room n stride size

-- x is the rank of row r under base term k on this column.
abbrev pub RankOf : List ℕ → ℕ → ℕ → BaseTerm → ℕ → List ℤ → ℕ → ℕ → ℤ → Type 0
RankOf table k e b columns rows column r x = RankAt table k e b (cell (row_at columns rows r) column) x

-- The ranks of record k in the blocks below b are right, and those of the records below k are as they were. `Q r x` says of x
-- that it is right for row r.
pub record Ranking (Q : ℕ → ℤ → Type 0) (n stride k b : ℕ) (before after : List ℤ) : Type 0 where
  pub kept : (a j h : ℕ) → j < 64 → h < k
      → get_or after (a * stride + h * 64 + j) (pos 0) ≡ get_or before (a * stride + h * 64 + j) (pos 0)
  pub here : (a j : ℕ) → j < 64 → a * 64 + j < n → a < b → Q (a * 64 + j) (get_or after (a * stride + k * 64 + j) (pos 0))
