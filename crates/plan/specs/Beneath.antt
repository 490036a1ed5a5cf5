-- The records whose codes a comparison needs: those that tell of the asked term, and all beneath them.
use Rattle.std.specs.Prelude.{◌≡◌, Bool, true, false, List, ℕ, ◌<◌, ◌≤◌, get_or, length, set}
use Rattle.std.proofs.Common.{arith}
use Rattle.model.specs.declared.{CompoundTerm.CompoundTerm, Record.Record}
use Rattle.model.specs.declared.CompoundTerm.TheVariants.{Joined, Dual}
use Rattle.model.specs.declared.Record.TheVariants.{Base, Compound, Unknown}
use Rattle.model.specs.Record.{record_count, record_at}
use Rattle.plan.specs.declared.vetted.exit_masks.{Exit.Exit}
use Rattle.plan.specs.declared.vetted.exit_masks.Exit.TheVariants.{Nothing}
use Rattle.laws.specs.Accepted.{Accepted}
use Rattle.laws.specs.AcceptedKinds.{accepted-joined, accepted-dual}

-- What holds of each part of a compound.
abbrev pub OfParts : (ℕ → Type 0) → CompoundTerm → Type 0
OfParts P (Joined op p q) = P p × P q
OfParts P (Dual p) = P p

-- What holds of each part of a record.
abbrev pub OfRecord : (ℕ → Type 0) → Record → Type 0
OfRecord P (Record.Value a) = Unit {0}
OfRecord P (Base column b) = Unit {0}
OfRecord P (Compound c) = OfParts P c
OfRecord P Unknown = Unit {0}

-- The parts of the compounds up to the term stand below them.
pub record PartsLow (table : List ℕ) (term : ℕ) : Type 0 where
  pub each : (k : ℕ) (c : CompoundTerm) → k ≤ term → record_at table k ≡ Compound c → OfParts (λ p. p < k) c

-- Each record that tells of the asked term, by its mask (`exits`), is marked.
pub record Telling (exits : List Exit) (marks : List Bool) : Type 0 where
  pub room : length marks ≡ 128
  pub each : (k : ℕ) → k < 128 → get_or marks k false ≡ false → get_or exits k Nothing ≡ Nothing

-- Each record that tells of the asked term, by its mask (`exits`), is marked, and so are the parts of each marked compound
-- from record m up to the term.
pub record MarkedFrom (table : List ℕ) (term m : ℕ) (exits : List Exit) (marks : List Bool) : Type 0 where
  pub room : length marks ≡ 128
  pub telling : (k : ℕ) → k < 128 → get_or marks k false ≡ false → get_or exits k Nothing ≡ Nothing
  pub parts : (k : ℕ) (c : CompoundTerm) → m ≤ k → k ≤ term → get_or marks k false ≡ true → record_at table k ≡ Compound c
      → OfParts (λ p. get_or marks p false ≡ true) c

-- The marks with those of a compound's parts,
abbrev pub parts_marked : CompoundTerm → List Bool → List Bool
parts_marked (Joined op p q) marks = set (set marks p true) q true
parts_marked (Dual p) marks = set marks p true

-- and of a record's.
abbrev pub record_marked : Record → List Bool → List Bool
record_marked (Record.Value a) marks = marks
record_marked (Base column b) marks = marks
record_marked (Compound c) marks = parts_marked c marks
record_marked Unknown marks = marks

-- All records whose codes are needed are marked.
abbrev pub Marked : List ℕ → ℕ → List Exit → List Bool → Type 0
Marked table term exits marks = MarkedFrom table term 0 exits marks

-- An accepted table's parts stand below their compounds.
pub parts_low : (table : List ℕ) (columns term : ℕ) → Accepted table columns → term < record_count table
    → PartsLow table term
parts_low table columns term ok h = record { each = λ k c l e. by_kind k c (omega arith) e }
  where
    by_kind : (k : ℕ) (c : CompoundTerm) → k < record_count table → record_at table k ≡ Compound c → OfParts (λ p. p < k) c
    by_kind k (Joined op p q) l e =
        let a = accepted-joined table columns ok k l op p q e in (a.left, a.right)
    by_kind k (Dual p) l e = (accepted-dual table columns ok k l p e).part
