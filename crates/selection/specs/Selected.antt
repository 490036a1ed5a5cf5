-- What an engine is asked, and what it does (SPECIFICATION, "Query").
use Rattle.std.specs.Prelude.{◌≡◌, List, ℕ, ◌+◌, ◌*◌, ◌≤◌, ℤ, length}
use Rattle.model.specs.Search.{fill}
use Rattle.model.specs.Query.{kept_count, answer}
use Rattle.laws.specs.Order.{Rel}
use Rattle.laws.specs.Taken.{TakenTerm}

-- A term record of an accepted table, and a run of n rows.
pub record AskedRows (table : List ℕ) (columns term : ℕ) (rows : List ℤ) (n : ℕ) : Type 0 where
  pub taken : TakenTerm table columns term
  pub run : length rows ≡ n * columns
  pub few : n ≤ 1024

-- A block of ranks has 64 for each record up to the term, and no more than 128 records need.
pub record StrideFor (term stride : ℕ) : Type 0 where
  pub wide : term * 64 + 64 ≤ stride
  pub narrow : stride ≤ 8192

-- It returns how many of n rows are kept, and writes each row's entry. `beats j i` reads "row j is in row i's set and
-- better".
pub record Selected (beats : Rel ℕ) (n : ℕ) (before after : List ℕ) (count : ℕ) : Type 0 where
  pub counted : count ≡ kept_count n beats
  pub written : after ≡ fill n (answer n beats) before
