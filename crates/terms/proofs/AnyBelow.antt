-- `any` over a range is a test of all numbers in it. Assumes nothing.
use Rattle.std.proofs.Common.{◌≡◌, ℕ, zero, suc, ◌+◌, ◌-◌, ◌<◌, ◌≤◌, Bool, true, false, cond, ◌&&◌, ◌||◌, List, [], ◌++◌, MatchBool, length, ltb, arith, refl, sym, ◌∙◌, ltb-true, lt-ltb}
use Rattle.std.specs.List.{HoldsAt, AllWithin, range_with_len}
use Rattle.std.proofs.lemmas.List.FromFn.{length-range_with_len, get_or-range_with_len}
use Rattle.std.proofs.lemmas.Bool.{false≢true}
use Rattle.std.proofs.Math.Bool.{or_comm, or-false}
use Rattle.model.specs.declared.{Record.Record, Value.Value}
use Rattle.model.specs.Record.{record_at, value_in}
use Rattle.model.specs.Search.{any_below, any_in}
use Rattle.laws.specs.Bools.{and_l, and_r, and_i}
use Rattle.laws.specs.Runs.{values_between}
use Rattle.laws.specs.Search.{any-i, none-i}
use Rattle.records.specs.Fields.{value_at}

module _ (a n : ℕ) (test : ℕ → Bool) where
  abbrev range : List ℕ
  range = range_with_len a n

  -- What `any` answers over the range.
  abbrev pub Answered : Bool → Type 0
  Answered r =
      MatchBool r ((k : ℕ) × (k < length range) × HoldsAt (λ i. test i ≡ true) range k)
      (AllWithin (λ i. test i ≡ false) range 0 (length range))

  -- It is true where the test holds of a number in it,
  some : Answered true → (i : ℕ) × (a ≤ i) × (i < a + n) × (test i ≡ true)
  some h =
      let l : h.0 < n = omega (arith, length-range_with_len a n, h.1) in
      (a + h.0, omega arith, omega arith, rw (get_or-range_with_len a n h.0 0 l) at (h.2 0))

  -- and false where it holds of none.
  none : Answered false → (i : ℕ) → a ≤ i → i < a + n → test i ≡ false
  none h i low high =
      let j : ℕ = i - a in
      let l : j < n = omega arith in
      let m : j < length range = omega (arith, length-range_with_len a n) in
      let is : a + j ≡ i = omega arith in
      rw (get_or-range_with_len a n j 0 l, is) at (h j 0 (omega arith) m)

-- From 0 on it is `any_below`.
pub any-range : (n : ℕ) (r : Bool) (test : ℕ → Bool) → Answered 0 n test r → r ≡ any_below n test
any-range n true test h = let s = some 0 n test h in sym (any-i n test s.0 (omega (arith, s.2)) s.3)
any-range n false test h =
    sym (none-i n test (λ j l e. false≢true (sym (none 0 n test h j (omega arith) (omega arith)) ∙ e)))

module _ (table : List ℕ) (k e : ℕ) (before : k < e)
    (each : (i : ℕ) → k < i → i < e → record_at table i ≡ Record.Value (value_at table i)) (test : Value → Bool) where
  here : ℕ → Bool
  here i = ltb k i && test (value_at table i)

  between : (n : ℕ) → n ≤ e → any_in (values_between table k n) test ≡ any_below n here
  unfolding values_between any_in any_below here
  between zero h = refl
  between (suc n) h = go (between n (omega arith)) (ltb k n) refl
    where
      go : any_in (values_between table k n) test ≡ any_below n here → (b : Bool) → ltb k n ≡ b
          → any_in (cond b (value_in (record_at table n)) [] ++ values_between table k n) test
          ≡ (any_below n here || b && test (value_at table n))
      go ih true q =
          rw (each n (ltb-true k n q) (omega arith), ih) (or_comm (test (value_at table n)) (any_below n here))
      go ih false q = ih ∙ sym (or-false (any_below n here))

  -- Over the records after k it is a test of the values there.
  pub any-values : (r : Bool) → Answered (k + 1) (e - (k + 1)) (λ i. test (value_at table i)) r
      → r ≡ any_in (values_between table k e) test
  unfolding here
  any-values r h = by r h ∙ sym (between e (omega arith))
    where
      by : (r : Bool) → Answered (k + 1) (e - (k + 1)) (λ i. test (value_at table i)) r → r ≡ any_below e here
      by true h =
          let s = some (k + 1) (e - (k + 1)) (λ i. test (value_at table i)) h in
          sym (any-i e here s.0 (omega (arith, s.2)) (and_i (lt-ltb k s.0 (omega (arith, s.1))) s.3))
      by false h =
          sym (none-i e here (λ i l q.
          let a : k < i = ltb-true k i (and_l (ltb k i) (test (value_at table i)) q) in
          false≢true (sym (none (k + 1) (e - (k + 1)) (λ i. test (value_at table i)) h i (omega arith) (omega arith))
          ∙ and_r (ltb k i) (test (value_at table i)) q)))
