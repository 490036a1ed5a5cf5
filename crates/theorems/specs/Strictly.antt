-- "Strictly" (SPECIFICATION, "The third promise, word by word").
use Rattle.std.specs.Prelude.{◌≡◌, true, List, ℕ, ◌<◌}
use Rattle.model.specs.Record.{record_count, record_at, is_term}
use Rattle.model.specs.Demand.{accepted}

-- "A table is accepted when Check with the column count refuses nothing. A term is any term record, not the top alone."
pub record TermRecord (table : List ℕ) (columns term : ℕ) : Type 0 where
  pub is_accepted : accepted table columns ≡ true
  pub below : term < record_count table
  pub is_record : is_term (record_at table term) ≡ true
