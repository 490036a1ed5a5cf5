-- A run of value records after a term record.
use Rattle.std.specs.Prelude.{◌≡◌, List, ℕ, ◌+◌, ◌<◌, ◌≤◌}
use Rattle.model.specs.declared.{Record.Record}
use Rattle.model.specs.Record.{record_at}
use Rattle.records.specs.Fields.{value_at}

-- The records between j and k are at most 16 value records.
pub record Values (table : List ℕ) (j k : ℕ) : Type 0 where
  pub before : j < k
  pub few : k ≤ j + 17
  pub last : k ≤ 128
  pub each : (i : ℕ) → j < i → i < k → record_at table i ≡ Record.Value (value_at table i)
