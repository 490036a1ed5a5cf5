-- What the direct engine compares two rows of a run with.
use Rattle.std.specs.Prelude.{◌≡◌, Bool, true, false, List, ℕ, ◌+◌, ◌*◌, ◌<◌, ◌≤◌, ℤ, length, get_or}
use Rattle.std.specs.Int.Bits.{bit_or}
use Rattle.model.specs.Record.{record_at, is_term}
use Rattle.model.specs.Term.{term_at}
use Rattle.model.specs.Better.{Row}
use Rattle.model.specs.Query.{row_at}
use Rattle.laws.specs.Codes.{code, prior_code, turned_code}
use Rattle.laws.specs.Taken.{TakenTerm}
use Rattle.terms.specs.Prepared.{RunEnds, Reached}
use Rattle.rows.specs.Values.{Room}
use Rattle.plan.specs.Beneath.{Marked}
use Rattle.ranks.specs.Ranked.{Ranked}
use Rattle.plan.specs.Exits.{Exits}
use Rattle.plan.specs.declared.vetted.exit_masks.{Exit.Exit}
use Rattle.plan.specs.declared.vetted.ops.{Op.Op, Step.Step}
use Rattle.plan.specs.Ops.{Ops}

-- A term record of an accepted table with what is prepared of it, and a run of n rows with their ranks.
pub record Comparable (table : List ℕ) (ops : List Step) (ends : List ℕ) (reach : List (List Bool)) (marks : List Bool)
    (exits : List Exit) (term columns : ℕ) (rows : List ℤ) (n stride : ℕ) (ranks : List ℤ) : Type 0 where
  pub taken : TakenTerm table columns term
  pub does : Ops table term ops
  pub runs : RunEnds table ends
  pub reached : Reached table ends reach
  pub marked : Marked table term exits marks
  pub exiting : Exits table term exits
  pub run : length rows ≡ n * columns
  pub few : n ≤ 1024
  pub ranked : Ranked table ends marks columns rows n stride (term + 1) ranks
  pub rank_room : Room n stride (length ranks)
  pub wide : term * 64 + 64 ≤ stride
  pub narrow : stride ≤ 8192

-- A row of the run, with its number.
pub record RowOf (columns : ℕ) (rows : List ℤ) (n i : ℕ) (row : Row) : Type 0 where
  pub below : i < n
  pub is : row ≡ row_at columns rows i

-- Record k is a term record that is marked, and not past the asked one.
pub record RecordOf (table : List ℕ) (marks : List Bool) (term k : ℕ) : Type 0 where
  pub most : k ≤ term
  pub is_record : is_term (record_at table k) ≡ true
  pub marked : get_or marks k false ≡ true

-- The marked term records below k hold their codes.
pub record CodesBelow (table : List ℕ) (marks : List Bool) (x y : Row) (k : ℕ) (codes : List ℕ) : Type 0 where
  pub each : (h : ℕ) → h < k → get_or marks h false ≡ true → is_term (record_at table h) ≡ true
      → get_or codes h 0 ≡ code (term_at table h) x y

-- The operations of base terms.
abbrev pub is_base : Op → Bool
is_base Op.ByRank = true
is_base Op.Places = true
is_base Op.Join = false
is_base Op.Prior = false
is_base Op.Dual = false

-- A compound's code from its parts' codes, by its operation.
abbrev pub op_code : Op → ℕ → ℕ → ℕ
op_code Op.ByRank a b = turned_code a
op_code Op.Places a b = turned_code a
op_code Op.Join a b = bit_or a b
op_code Op.Prior a b = prior_code a b
op_code Op.Dual a b = turned_code a
