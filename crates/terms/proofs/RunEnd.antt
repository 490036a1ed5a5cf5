-- The values of a term end at the next term record, or with the table (SPECIFICATION, "The table"). Assumes nothing.
use mathlib.Core.Path.{◌≡◌, refl, sym, ◌∙◌}
use mathlib.Core.Logic.{⊎_elim}
use mathlib.Core.Bool.{Bool, true, false, cond, false≢true}
use mathlib.Core.List.{List, []}
use Prim.Native.Nat.{ℕ, zero, suc, ◌+◌, ◌<◌, ◌≤◌}
use native.Mathlib.Omega.{arith}
use lib.Dec.{eqb}
use lib.ListN.{length}
use borrow.Author.Tests.{ne_eqb}
use Rattle.model.specs.declared.{Record.Record, Value.Value}
use Rattle.model.specs.Record.{record_count, record_at, record_of, kind_at, is_term, value_in, nearest_term, values_of}
use Rattle.laws.specs.Bools.{on-or-off}
use Rattle.laws.specs.Search.{lt-suc-cases}
use Rattle.laws.specs.Records.{kind_number, kind-of}
use Rattle.laws.specs.Runs.{nearest-term, nearest-value, values_between, between-values, between-length}
use Rattle.laws.specs.AcceptedRuns.{value-record}
use Rattle.laws.specs.AcceptedTable.{accepted-table}
use Rattle.laws.specs.AcceptedValues.{values-few}
use Rattle.records.specs.Fields.{value_at}
use Rattle.terms.specs.Prepared.{Vetted, Run, NextTerm}

-- A term record holds no value.
no_value : (r : Record) → is_term r ≡ true → (b : Bool) → cond b (value_in r) [] ≡ []
no_value (Record.Value a) t b = absurd (false≢true t)
no_value (Record.Base column r) t true = refl
no_value (Record.Base column r) t false = refl
no_value (Record.Compound r) t true = refl
no_value (Record.Compound r) t false = refl
no_value Record.Unknown t b = absurd (false≢true t)

module _ (table : List ℕ) where
  -- An accepted table has at most 128 records.
  pub few-records : Vetted table → record_count table ≤ 128
  few-records ok = (accepted-table table ok.columns ok.accepted).few_records

  kind-value : (i : ℕ) → kind_at table i ≡ 0 → record_at table i ≡ Record.Value (value_at table i)
  unfolding record_at record_of
  kind-value i e = rw e

  -- A value record holds its own fields.
  value-at : (i : ℕ) (a : Value) → record_at table i ≡ Record.Value a → record_at table i ≡ Record.Value (value_at table i)
  unfolding kind_number
  value-at i a e = kind-value i (kind-of table i (Record.Value a) e refl)

  -- The nearest term does not stand before a term record that is passed.
  nearest-after : (e m : ℕ) → is_term (record_at table e) ≡ true → e < m → e ≤ nearest_term table m
  nearest-after e zero t h = absurd (omega arith)
  nearest-after e (suc m) t h =
      ⊎_elim (λ s. rw (nearest-term table m s) (omega arith))
      (λ s. rw (nearest-value table m s)
      (⊎_elim (λ l. nearest-after e m t l) (λ l. absurd (false≢true (sym (rw l s) ∙ t))) (lt-suc-cases e m h)))
      (on-or-off (is_term (record_at table m)))

  -- No record from the next term on belongs to term k,
  none_here : (k e m : ℕ) → k < e → is_term (record_at table e) ≡ true → e < suc m
      → cond (eqb (nearest_term table m) k) (value_in (record_at table m)) [] ≡ []
  none_here k e m l t h =
      ⊎_elim
      (λ q. rw (ne_eqb (nearest_term table m) k (λ s. omega (arith, nearest-after e m t q, s))))
      (λ q. no_value (record_at table m) (rw q at t) (eqb (nearest_term table m) k))
      (lt-suc-cases e m h)

  -- so that its values are those before the next term.
  values-end : (k e m : ℕ) → k < e → is_term (record_at table e) ≡ true → e ≤ m → values_of table k m ≡ values_of table k e
  unfolding values_of
  values-end k e zero l t h = absurd (omega arith)
  values-end k e (suc m) l t h =
      ⊎_elim
      (λ q. rw (none_here k e m l t q) (values-end k e m l t (omega arith)))
      (λ q. rw q)
      (lt-suc-cases e (suc m) (omega arith))

  module _ (ok : Vetted table) (k e : ℕ) (term : is_term (record_at table k) ≡ true)
      (next : NextTerm table k (record_count table) e) where
    all-values : values_of table k (record_count table) ≡ values_between table k e
    all-values =
        ⊎_elim
        (λ q. values-end k e (record_count table) next.after (next.ends q) next.most)
        (λ q. rw q)
        (lt-suc-cases e (record_count table) (omega (arith, next.most)))
        ∙ between-values table k e term next.between

    each-value : (i : ℕ) → k < i → i < e → (a : Value) × (record_at table i ≡ Record.Value a)
    each-value i l h =
        value-record (record_at table i) (ok.accepted.records i (omega (arith, next.most))).kind (next.between i l h)

    few-values : e ≤ k + 17
    few-values =
        let w : length (values_between table k e) ≤ 16 = rw all-values at (values-few table ok.columns ok.accepted k) in
        omega (arith, between-length table k e each-value, next.after)

    -- The run of term k ends at the next term.
    pub next-run : Run table k e
    next-run =
        record {
          values = record {
            before = next.after;
            few = few-values;
            last = omega (arith, next.most, few-records ok);
            each = λ i l h. let v = each-value i l h in value-at i v.0 v.1;
          };
          follows = next;
          all = all-values;
        }

-- ---- downward through the records

-- `next` is the first term record from record k on, or n.
pub record FirstFrom (table : List ℕ) (k n next : ℕ) : Type 0 where
  pub least : k ≤ next
  pub most : next ≤ n
  pub before : (i : ℕ) → k ≤ i → i < next → is_term (record_at table i) ≡ false
  pub ends : next < n → is_term (record_at table next) ≡ true

module _ (table : List ℕ) (n : ℕ) where
  pub first-none : FirstFrom table n n n
  first-none =
      record { least = omega arith; most = omega arith; before = λ i l h. absurd (omega arith); ends = λ h. absurd (omega arith) }

  -- The first from record k + 1 on is the next after record k.
  pub first_next : (k next : ℕ) → FirstFrom table (k + 1) n next → NextTerm table k n next
  first_next k next f =
      record {
        after = omega (arith, f.least);
        most = f.most;
        between = λ i l h. f.before i (omega (arith, l)) h;
        ends = f.ends;
      }

  -- One record down, which is a term,
  pub first-term : (k : ℕ) → k < n → is_term (record_at table k) ≡ true → FirstFrom table k n k
  first-term k l t =
      record { least = omega arith; most = omega (arith, l); before = λ i a b. absurd (omega (arith, a, b)); ends = λ h. t }

  -- or is none.
  pub first-value : (k next : ℕ) → FirstFrom table (k + 1) n next → is_term (record_at table k) ≡ false
      → FirstFrom table k n next
  first-value k next f t =
      record {
        least = omega (arith, f.least);
        most = f.most;
        before = λ i a b. ⊎_elim (λ q. f.before i (omega (arith, q)) b) (λ q. rw (← q) t) (lt-suc-cases k i (omega (arith, a)));
        ends = f.ends;
      }
