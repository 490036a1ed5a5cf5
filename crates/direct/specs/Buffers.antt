-- What the direct engine keeps while rows meet.
use Rattle.std.specs.Prelude.{ℕ, ◌≤◌}

-- Room for n rows that are gone, the rows that beat them and the rows' keys.
pub record Buffers (n gone by keys : ℕ) : Type 0 where
  pub of_gone : n ≤ gone
  pub of_by : n ≤ by
  pub of_keys : n ≤ keys
