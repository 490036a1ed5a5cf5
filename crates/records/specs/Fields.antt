-- A record's numbers as their bits, and the value that a value record holds.
use Rattle.std.specs.Prelude.{List, ℕ, ◌+◌, ◌*◌}
use Rattle.model.specs.declared.Value.{Value}
use Rattle.model.specs.Bytes.{word_at}
use Rattle.model.specs.Record.{p_at, u_at, v_at}

-- u and v as their 32 bits.
abbrev pub u_word : List ℕ → ℕ → ℕ
u_word table k = word_at table (12 * k + 4)

abbrev pub v_word : List ℕ → ℕ → ℕ
v_word table k = word_at table (12 * k + 8)

-- The value that record k holds where it is a value record.
abbrev pub value_at : List ℕ → ℕ → Value
value_at table k = record { role = p_at table k; u = u_at table k; v = v_at table k }
