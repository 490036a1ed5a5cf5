-- The terms of an accepted table (SPECIFICATION, "The table", "What a call refuses") are sound and over the columns;
-- what else acceptance says goes by their kinds. Assumes nothing.
use Rattle.std.specs.Prelude.{◌≡◌, ◌⊎◌, true, List, ℕ, zero, suc, ◌^◌, ◌<◌, ◌≤◌}
use Rattle.std.proofs.Common.{inl, inr, arith}
use Rattle.model.specs.declared.{Record.Record, BaseTerm.BaseTerm, Pair.Pair, CompoundTerm.CompoundTerm}
use Rattle.model.specs.Record.{record_count, record_at, is_term}
use Rattle.model.specs.Term.{term_at, columns_of}
use Rattle.model.specs.Check.{columns_before}
use Rattle.laws.specs.Search.{lt-suc-cases}
use Rattle.laws.specs.Terms.{columns-among}
use Rattle.laws.specs.Sound.{sound, within}
use Rattle.laws.specs.AcceptedKinds.{AcceptedBase, AcceptedJoined, AcceptedDual}

-- Of any term record: sound, over the columns, and by its kind.
pub record AcceptedTerm (table : List ℕ) (columns k : ℕ) : Type 0 where
  pub is_sound : sound (term_at table k) ≡ true
  pub is_within : within columns (term_at table k) ≡ true
  pub mask : columns_of (term_at table k) < 2 ^ 8
  pub of_base : (column : ℕ) (b : BaseTerm) → record_at table k ≡ Record.Base column b
      → AcceptedBase table columns k column b
  pub of_joined : (op : Pair) (p q : ℕ) → record_at table k ≡ Record.Compound (CompoundTerm.Joined op p q)
      → AcceptedJoined table k op p q
  pub of_dual : (p : ℕ) → record_at table k ≡ Record.Compound (CompoundTerm.Dual p) → AcceptedDual table k p

-- What holds of each term record where it holds of the term records below it holds of all: parts stand below.
pub by-parts-below : (table : List ℕ) (P : ℕ → Type 0)
    → ((k : ℕ) → k < record_count table → ((j : ℕ) → j < k → is_term (record_at table j) ≡ true → P j)
    → is_term (record_at table k) ≡ true
    → P k)
    → (k : ℕ) → k < record_count table → is_term (record_at table k) ≡ true → P k
by-parts-below table P f k h t = all (record_count table) (omega arith) k h t
  where
    all : (m : ℕ) → m ≤ record_count table → (k : ℕ) → k < m → is_term (record_at table k) ≡ true → P k
    all zero h k l t = absurd (omega arith)
    all (suc m) h k l t = go (all m (omega arith)) (lt-suc-cases k m l)
      where
        go : ((k : ℕ) → k < m → is_term (record_at table k) ≡ true → P k) → (k < m) ⊎ (k ≡ m) → P k
        go ih (inl p) = ih k p t
        go ih (inr p) = f k (omega arith) (λ j q. ih j (omega arith)) t

-- The columns that APART reads are those of the whole table's terms.
pub columns-before : (table : List ℕ) (k part : ℕ) → columns_before table k part ≡ columns_of (term_at table part)
unfolding columns_before term_at
columns-before table k part = columns-among table k (record_count table) part
