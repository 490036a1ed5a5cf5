-- The marks of the records beneath a term, as one loop downward sets them: a record's parts stand below it. Assumes nothing.
use mathlib.Core.Path.{◌≡◌, refl, sym, ◌∙◌, subst}
use mathlib.Core.Logic.{⊎_elim}
use mathlib.Core.Bool.{Bool, true, false, false≢true}
use mathlib.Core.List.{List}
use Prim.Native.Nat.{ℕ, ◌+◌, ◌<◌, ◌≤◌}
use native.Mathlib.Omega.{arith}
use lib.Dec.{ltb, eqb}
use lib.ListN.{length, get_or, set, length-set}
use lib.Seq.{get_or-set_same, get_or-set_other}
use borrow.Author.Tests.{eqb-true, eqb-false, ltb-true, ltb-false}
use Rattle.model.specs.declared.{Record.Record}
use Rattle.model.specs.declared.CompoundTerm.TheVariants.{Joined, Dual}
use Rattle.model.specs.declared.Record.TheVariants.{Base, Compound, Unknown}
use Rattle.model.specs.Record.{record_at}
use Rattle.laws.specs.Bools.{on-or-off, off}
use Rattle.plan.specs.declared.vetted.exit_masks.{Exit.Exit}
use Rattle.plan.specs.Beneath.{OfRecord, PartsLow, Telling, MarkedFrom, record_marked}

-- What is weaker holds of the parts too.
of-record : {P Q : ℕ → Type 0} → ((p : ℕ) → P p → Q p) → (r : Record) → OfRecord P r → OfRecord Q r
of-record f (Record.Value a) h = tt
of-record f (Base column b) h = tt
of-record f (Compound (Joined op p q)) (hp, hq) = (f p hp, f q hq)
of-record f (Compound (Dual p)) h = f p h
of-record f Unknown h = tt

-- The parts of record k stand below it.
parts-of : (table : List ℕ) (k : ℕ) → PartsLow table k → (r : Record) → record_at table k ≡ r → OfRecord (λ p. p < k) r
parts-of table k low (Record.Value a) e = tt
parts-of table k low (Base column b) e = tt
parts-of table k low (Compound c) e = low.each k c (omega arith) e
parts-of table k low Unknown e = tt

-- So they are among the 128 records.
pub parts_in : (table : List ℕ) (k : ℕ) → k < 128 → PartsLow table k → OfRecord (λ p. p < 128) (record_at table k)
parts_in table k h low =
    of-record {P = λ p. p < k} {Q = λ p. p < 128} (λ p l. omega arith) (record_at table k)
    (parts-of table k low (record_at table k) refl)

-- ---- marks with those of a record's parts

-- The parts of record k are marked, marks stay, and none is set from record k on.
record Added (k : ℕ) (r : Record) (before after : List Bool) : Type 0 where
  size : length after ≡ length before
  kept : (i : ℕ) → k ≤ i → get_or after i false ≡ get_or before i false
  grown : (i : ℕ) → get_or before i false ≡ true → get_or after i false ≡ true
  parts : OfRecord (λ p. get_or after p false ≡ true) r

set_grown : (marks : List Bool) (p i : ℕ) → p < length marks → get_or marks i false ≡ true
    → get_or (set marks p true) i false ≡ true
set_grown marks p i l h =
    ⊎_elim
    (λ e. rw (eqb-true i p e) (get_or-set_same marks p true false l))
    (λ e. get_or-set_other marks p i true false (eqb-false i p e) ∙ h)
    (on-or-off (eqb i p))

added : (k : ℕ) (r : Record) (marks : List Bool) → k ≤ length marks → OfRecord (λ p. p < k) r
    → Added k r marks (record_marked r marks)
added k (Record.Value a) marks l h = record { size = refl; kept = λ i g. refl; grown = λ i g. g; parts = tt }
added k (Base column b) marks l h = record { size = refl; kept = λ i g. refl; grown = λ i g. g; parts = tt }
added k (Compound (Joined op p q)) marks l (hp, hq) =
    let room : q < length (set marks p true) = rw (length-set marks p true) (omega arith) in
    record {
      size = length-set (set marks p true) q true ∙ length-set marks p true;
      kept = λ i h.
          get_or-set_other (set marks p true) q i true false (λ e. omega arith)
          ∙ get_or-set_other marks p i true false (λ e. omega arith);
      grown = λ i h. set_grown (set marks p true) q i room (set_grown marks p i (omega arith) h);
      parts = (
        set_grown (set marks p true) q p room (get_or-set_same marks p true false (omega arith)),
        get_or-set_same (set marks p true) q true false room,
      );
    }
added k (Compound (Dual p)) marks l h =
    record {
      size = length-set marks p true;
      kept = λ i g. get_or-set_other marks p i true false (λ e. omega arith);
      grown = λ i g. set_grown marks p i (omega arith) g;
      parts = get_or-set_same marks p true false (omega arith);
    }
added k Unknown marks l h = record { size = refl; kept = λ i g. refl; grown = λ i g. g; parts = tt }

-- ---- from the term downward

-- The records that tell are marked.
pub marked_start : (table : List ℕ) (term : ℕ) (exits : List Exit) (marks : List Bool) → Telling exits marks
    → MarkedFrom table term (term + 1) exits marks
marked_start table term exits marks t =
    record { room = t.room; telling = t.each; parts = λ k c m n h e. absurd (omega arith) }

module _ (table : List ℕ) (term k : ℕ) (below : k ≤ term) (few : term < 128) (low : PartsLow table term)
    (exits : List Exit) (marks : List Bool) (from : MarkedFrom table term (k + 1) exits marks) where
  -- An unmarked record leaves the marks as they are,
  pub unmarked-same : get_or marks k false ≡ false → MarkedFrom table term k exits marks
  unmarked-same off =
      record {
        room = from.room;
        telling = from.telling;
        parts = λ h c l m t e.
            ⊎_elim
            (λ q. from.parts h c (omega (arith, ltb-true k h q)) m t e)
            (λ q. let s : h ≡ k = omega (arith, ltb-false k h q) in absurd (false≢true (sym off ∙ rw s at t)))
            (on-or-off (ltb k h));
      }

  -- and the parts of a marked one are marked too.
  more : (after : List Bool) → Added k (record_at table k) marks after → MarkedFrom table term k exits after
  more after a =
      record {
        room = a.size ∙ from.room;
        telling = λ h l off. from.telling h l (unmarked h off);
        parts = λ h c l m t e.
            ⊎_elim
            (λ q. of-record {P = λ p. get_or marks p false ≡ true} {Q = λ p. get_or after p false ≡ true} a.grown (Compound c)
            (from.parts h c (omega (arith, ltb-true k h q)) m (sym (a.kept h l) ∙ t) e))
            (λ q. let s : h ≡ k = omega (arith, ltb-false k h q) in
            subst (λ (r : Record). OfRecord (λ p. get_or after p false ≡ true) r) (rw s at e) a.parts)
            (on-or-off (ltb k h));
      }
    where
      unmarked : (h : ℕ) → get_or after h false ≡ false → get_or marks h false ≡ false
      unmarked h gone = off (get_or marks h false) (λ on. false≢true (sym gone ∙ a.grown h on))

  -- by their entries.
  pub marked-more : MarkedFrom table term k exits (record_marked (record_at table k) marks)
  marked-more =
      more (record_marked (record_at table k) marks)
      (added k (record_at table k) marks (rw from.room (omega arith))
      (parts-of table k (record { each = λ h c l e. low.each h c (omega arith) e }) (record_at table k) refl))
