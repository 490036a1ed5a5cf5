-- The perfect marks of an accepted table's terms (SPECIFICATION, "Perfect"): of a base term by its kind, of a compound
-- from its parts' marks, with DUAL's exchanged, where the table is a run of bytes. Assumes nothing.
-- What a reader or a contract cites stands in specs/AcceptedMarks.
use Rattle.std.specs.Prelude.{◌≡◌, true, false, List, ℕ, ◌<◌}
use Rattle.std.proofs.Common.{ap}
use Rattle.model.specs.declared.{Record.Record, BaseTerm.BaseTerm}
use Rattle.model.specs.Bytes.{byte_at, Value32}
use Rattle.model.specs.Record.{record_count, record_at, is_term, values_of}
use Rattle.model.specs.Term.{term_at}
use Rattle.model.specs.Better.{Row, cell}
use Rattle.model.specs.Perfect.{perfect}
use Rattle.laws.specs.Sound.{sound_base, sound}
use Rattle.laws.specs.Probes.{Numbers32}
use Rattle.laws.specs.Marks.{AllNumbers32}
use Rattle.laws.specs.Extremes.{none_better, none_worse}
use Rattle.laws.specs.ExtremesOfBase.{none-better, none-worse}
use Rattle.laws.specs.Accepted.{Accepted}
use Rattle.laws.specs.AcceptedKinds.{AcceptedBase, accepted-base}
use Rattle.laws.proofs.AcceptedTerms.{accepted-term}
use Rattle.laws.specs.AcceptedNumbers.{accepted-numbers}

module _ (table : List ℕ) (columns : ℕ) (ok : Accepted table columns) (k : ℕ) (below : k < record_count table)
    (x : Row) where
  module _ (column : ℕ) (b : BaseTerm) (e : record_at table k ≡ Record.Base column b)
      (bytes : (i : ℕ) → byte_at table i < 256) (r : Value32 (cell x column)) where
    a : AcceptedBase table columns k column b
    a = accepted-base table columns ok k below column b e

    is-term : is_term (record_at table k) ≡ true
    is-term = ap is_term e

    numbers : Numbers32 b (values_of table k (record_count table))
    unfolding AllNumbers32
    numbers = rw a.equation at (accepted-numbers table columns ok bytes k below is-term)

    is-sound : sound_base b (values_of table k (record_count table)) ≡ true
    unfolding sound
    is-sound = rw a.equation at (accepted-term table columns ok k below is-term).is_sound

    -- A base term's mark: no 32-bit value is better than the row's,
    pub base-perfect : perfect false (term_at table k) x ≡ none_better b (values_of table k (record_count table)) (cell x column)
    unfolding perfect
    base-perfect =
        rw a.equation
        (none-better column (values_of table k (record_count table)) (cell x column) r b numbers is-sound a.roles)

    -- or, beneath an odd number of DUALs, none is worse.
    pub base-odd : perfect true (term_at table k) x ≡ none_worse b (values_of table k (record_count table)) (cell x column)
    unfolding perfect
    base-odd =
        rw a.equation
        (none-worse column (values_of table k (record_count table)) (cell x column) r b numbers is-sound a.roles)
