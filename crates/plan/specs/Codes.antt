-- The code of two rows under a record of an accepted table: a base record's from the rows' values in its column, a compound's
-- from its parts' codes (codes as in laws/specs/Codes.antt). Assumes nothing.
use Rattle.std.specs.Prelude.{◌≡◌, true, List, ℕ, ◌<◌}
use Rattle.std.proofs.Common.{sym, ap, arith}
use Rattle.model.specs.declared.{BaseTerm.BaseTerm, Pair.Pair}
use Rattle.model.specs.declared.CompoundTerm.TheVariants.{Joined, Dual}
use Rattle.model.specs.declared.Record.TheVariants.{Base, Compound}
use Rattle.model.specs.Record.{record_count, record_at, is_term}
use Rattle.model.specs.Term.{term_at}
use Rattle.model.specs.Better.{Row, cell}
use Rattle.laws.specs.Sound.{sound_base, sound}
use Rattle.laws.specs.Runs.{values_between}
use Rattle.laws.specs.Outcome.{outcome-base}
use Rattle.laws.specs.Codes.{code_of, code, joined_code, turned_code}
use Rattle.laws.proofs.Codes.{pair_code, dual-code}
use Rattle.laws.specs.ValueCodes.{tests_code, value_code}
use Rattle.laws.specs.Accepted.{Accepted}
use Rattle.laws.specs.AcceptedTable.{accepted-table}
use Rattle.laws.specs.AcceptedKinds.{AcceptedBase, accepted-base, accepted-joined, accepted-dual}
use Rattle.laws.proofs.AcceptedTerms.{accepted-sound}
use Rattle.terms.specs.Prepared.{Run}

module _ {table : List ℕ} {columns : ℕ} (ok : Accepted table columns) {k : ℕ} (below : k < record_count table) where
  module _ {column : ℕ} {t : BaseTerm} (is : record_at table k ≡ Base column t) where
    pub of-base : AcceptedBase table columns k column t
    of-base = accepted-base table columns ok k below column t is

    -- There are at most 8 columns.
    pub column-below : column < 8
    column-below = omega (arith, of-base.below, (accepted-table table columns ok).few_columns)

    module _ {e : ℕ} (run : Run table k e) where
      pub base-sound : sound_base t (values_between table k e) ≡ true
      unfolding sound
      base-sound = rw (of-base.equation, run.all) at (accepted-sound table columns ok k below (ap is_term is)).0

      -- Two rows' code is that of their values.
      pub base-code-is : (x y : Row)
          → value_code t (values_between table k e) (cell x column) (cell y column) ≡ code (term_at table k) x y
      unfolding value_code tests_code
      base-code-is x y =
          rw (of-base.equation, run.all)
          (sym (ap code_of (outcome-base column t (values_between table k e) column-below x y)))

  -- A compound of two parts joins their codes,
  pub joined-code-is : {op : Pair} {p q : ℕ} → record_at table k ≡ Compound (Joined op p q) → (x y : Row) {a b : ℕ}
      → a ≡ code (term_at table p) x y → b ≡ code (term_at table q) x y → joined_code op a b ≡ code (term_at table k) x y
  joined-code-is {op} {p} {q} is x y e f =
      let a = accepted-joined table columns ok k below op p q is in
      let s = accepted-sound table columns ok k below (ap is_term is) in
      rw (e, f, a.equation)
      (sym (pair_code op (term_at table p) (term_at table q) (rw a.equation at s.0) (rw a.equation at s.1) x y))

  -- and DUAL turns its part's.
  pub dual-code-is : {p : ℕ} → record_at table k ≡ Compound (Dual p) → (x y : Row) {a : ℕ}
      → a ≡ code (term_at table p) x y → turned_code a ≡ code (term_at table k) x y
  dual-code-is {p} is x y e =
      let a = accepted-dual table columns ok k below p is in
      let s = accepted-sound table columns ok p (omega (arith, below, a.part)) a.part_term in
      rw (e, a.equation) (sym (dual-code (term_at table p) s.0 s.1 x y))
