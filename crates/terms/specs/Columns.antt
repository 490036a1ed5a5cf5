-- The columns that each record reads, from those of the records below it.
use Rattle.std.specs.Prelude.{◌≡◌, false, cond, List, ℕ, zero, suc, ◌^◌, ◌<◌, ◌≤◌, eqb, pos}
use Rattle.std.specs.Int.Bits.{bit_or}
use Rattle.model.specs.declared.Record.{Record}
use Rattle.model.specs.declared.CompoundTerm.TheVariants.{Joined, Dual}
use Rattle.model.specs.declared.Record.TheVariants.{Base, Compound, Unknown}
use Rattle.model.specs.Record.{kind_at, p_at, q_at, record_of, record_at}
use Rattle.model.specs.Check.{fails_column}

-- Record k without its numbers.
unfoldable pub unnumbered_at : List ℕ → ℕ → Record
unnumbered_at table k = record_of (kind_at table k) (p_at table k) (q_at table k) (pos 0) (pos 0)

-- The mask of a record from the masks of its parts. A record that is no term reads as ANY of column 0 (model, no_term).
abbrev pub mask_of : Record → (ℕ → ℕ) → ℕ
mask_of (Record.Value a) part = 1
mask_of (Base column b) part = 2 ^ column
mask_of (Compound (Joined op p q)) part = bit_or (part p) (part q)
mask_of (Compound (Dual p)) part = part p
mask_of Unknown part = 1

-- The masks of the records below m.
unfoldable pub mask_below : List ℕ → ℕ → ℕ → ℕ
mask_below table zero k = 1
mask_below table (suc m) k = cond (eqb k m) (mask_of (record_at table m) (mask_below table m)) (mask_below table m k)

-- The records below m read columns below 8.
pub record Narrow (table : List ℕ) (m : ℕ) : Type 0 where
  pub most : m ≤ 128
  pub each : (i : ℕ) → i < m → fails_column 8 (record_at table i) ≡ false
