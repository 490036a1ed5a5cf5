-- What is prepared of an accepted table's values once, before rows are compared (SPECIFICATION, "The table").
use Rattle.std.specs.Prelude.{◌≡◌, Bool, true, false, cond, List, [], ℕ, ◌+◌, ◌-◌, ◌*◌, ◌/◌, ◌%◌, ◌<◌, ◌≤◌, ltb, eqb, ℤ, pos, length, get_or}
use Rattle.model.specs.declared.Record.TheVariants.{Base}
use Rattle.model.specs.declared.BaseTerm.TheVariants.{Explicit}
use Rattle.model.specs.Record.{record_count, record_at, u_at, v_at, is_term, values_of}
use Rattle.model.specs.Better.{reaches, in_edge}
use Rattle.laws.specs.Runs.{values_between}
use Rattle.laws.specs.Accepted.{Accepted}
use Rattle.terms.specs.Run.{Values}
use Rattle.terms.specs.Closure.{cell_at}

-- The check has accepted the table, for some number of columns.
pub record Vetted (table : List ℕ) : Type 0 where
  pub columns : ℕ
  pub accepted : Accepted table columns

-- The numbers of all records in one row: u of record k at 2k, v at 2k + 1.
unfoldable pub number_at : List ℕ → ℕ → ℤ
number_at table i = cond (eqb (i % 2) 0) (u_at table (i / 2)) (v_at table (i / 2))

-- The array holds them.
pub record Numbers (table : List ℕ) (numbers : List ℤ) : Type 0 where
  pub each : (i : ℕ) → i < 256 → get_or numbers i (pos 0) ≡ number_at table i

-- r is the first term record after record k, or n.
pub record NextTerm (table : List ℕ) (k n r : ℕ) : Type 0 where
  pub after : k < r
  pub most : r ≤ n
  pub between : (i : ℕ) → k < i → i < r → is_term (record_at table i) ≡ false
  pub ends : r < n → is_term (record_at table r) ≡ true

-- The values of term k are the records from k + 1 to before e, and there are no others.
pub record Run (table : List ℕ) (k e : ℕ) : Type 0 where
  pub values : Values table k e
  pub follows : NextTerm table k (record_count table) e
  pub all : values_of table k (record_count table) ≡ values_between table k e

-- Entry k is where the values of term k end.
pub record RunEnds (table ends : List ℕ) : Type 0 where
  pub each : (k : ℕ) → k < record_count table → is_term (record_at table k) ≡ true → Run table k (get_or ends k 0)

-- r is a place of x among the ends of the edges from record k + 1 to before e, or 2e where it is in none.
pub record EndPlace (table : List ℕ) (k e : ℕ) (x : ℤ) (r : ℕ) : Type 0 where
  pub low : 2 * k + 2 ≤ r
  pub high : r ≤ 2 * e
  pub found : r < 2 * e → number_at table r ≡ x
  pub named : in_edge (values_between table k e) x ≡ ltb r (2 * e)

-- The rows of g stand from row `start` to before row `last`, and the other rows stay.
pub record RowsPut (g : List (List Bool)) (start last : ℕ) (before after : List (List Bool)) : Type 0 where
  pub size : length after ≡ length before
  pub put : (p : ℕ) → start ≤ p → p < last → get_or after p [] ≡ get_or g (p - start) []
  pub kept : (p : ℕ) → (start ≤ p → p < last → ⊥) → get_or after p [] ≡ get_or before p []

-- Row p says which ends of the edges from record k + 1 to before e are reached from end p by these edges.
pub record ReachedFrom (table : List ℕ) (k e : ℕ) (reach : List (List Bool)) : Type 0 where
  pub rows : 2 * e ≤ length reach
  pub each : (p q : ℕ) → 2 * k + 2 ≤ p → p < 2 * e → 2 * k + 2 ≤ q → q < 2 * e
      → cell_at reach p (q - (2 * k + 2)) ≡ reaches (values_between table k e) (number_at table p) (number_at table q)

-- It holds of every EXPLICIT term.
pub record Reached (table ends : List ℕ) (reach : List (List Bool)) : Type 0 where
  pub each : (k column : ℕ) → k < record_count table → record_at table k ≡ Base column Explicit
      → ReachedFrom table k (get_or ends k 0) reach
