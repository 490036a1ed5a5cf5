-- What the engine by parts prepares once per query, and the codes of row i against the rows of block b, record by record. Row
-- b * 64 + j is lane j of block b.
use Rattle.std.specs.Prelude.{◌≡◌, Bool, true, false, List, ℕ, ◌+◌, ◌*◌, ◌<◌, ◌≤◌, ℤ, get_or, length}
use Rattle.model.specs.Record.{record_at, is_term}
use Rattle.model.specs.Term.{term_at}
use Rattle.model.specs.Query.{row_at}
use Rattle.laws.specs.Codes.{code}
use Rattle.laws.specs.Taken.{TakenTerm}
use Rattle.terms.specs.Prepared.{Numbers, RunEnds, Reached}
use Rattle.plan.specs.declared.vetted.exit_masks.{Exit.Exit}
use Rattle.plan.specs.Exits.{Exits}
use Rattle.rows.specs.Values.{Room, Valued}
use Rattle.plan.specs.Beneath.{Marked}
use Rattle.ranks.specs.Ranked.{Ranked}

-- A query's table, rows, ranks and values. A block takes `stride` of the ranks.
pub record Ready (table : List ℕ) (numbers : List ℤ) (ends : List ℕ) (reach : List (List Bool)) (marks : List Bool)
    (exits : List Exit) (term columns : ℕ) (rows : List ℤ) (n stride : ℕ) (ranks values : List ℤ) : Type 0 where
  pub taken : TakenTerm table columns term
  pub prepared : Numbers table numbers
  pub runs : RunEnds table ends
  pub reached : Reached table ends reach
  pub marked : Marked table term exits marks
  pub exiting : Exits table term exits
  pub run : length rows ≡ n * columns
  pub few : n ≤ 1024
  pub wide : term * 64 + 64 ≤ stride
  pub narrow : stride ≤ 8192
  pub ranked : Ranked table ends marks columns rows n stride (term + 1) ranks
  pub rank_room : Room n stride (length ranks)
  pub valued : Valued columns rows n columns values
  pub value_room : Room n 512 (length values)

-- A row, a block of rows, and a record beneath the asked term.
pub record AtRecord (marks : List Bool) (term n i b k : ℕ) : Type 0 where
  pub row : i < n
  pub block : b * 64 < n
  pub most : k ≤ term
  pub marked : get_or marks k false ≡ true

-- The marked term records below k hold their codes: 64 for each, in record order.
pub record Coded (table : List ℕ) (marks : List Bool) (columns : ℕ) (rows : List ℤ) (n i b k : ℕ) (codes : List ℕ) : Type 0 where
  pub each : (h j : ℕ) → h < k → get_or marks h false ≡ true → is_term (record_at table h) ≡ true → j < 64 → b * 64 + j < n
      → get_or codes (h * 64 + j) 0 ≡ code (term_at table h) (row_at columns rows i) (row_at columns rows (b * 64 + j))
