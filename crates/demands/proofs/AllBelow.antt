-- `all` over a range from 0 on says that no number in it fails. Assumes nothing.
use Rattle.std.proofs.Common.{◌≡◌, ℕ, ◌+◌, ◌<◌, Bool, true, false, not, List, MatchBool, length, arith, sym, ap}
use Rattle.std.specs.List.{HoldsAt, AllWithin, range_with_len}
use Rattle.std.proofs.lemmas.List.FromFn.{length-range_with_len, get_or-range_with_len}
use Rattle.model.specs.Search.{any_below}
use Rattle.laws.specs.Bools.{not-both}
use Rattle.laws.specs.Search.{any-i, none-i}

module _ (n : ℕ) (test : ℕ → Bool) where
  abbrev range : List ℕ
  range = range_with_len 0 n

  -- What `all` answers over the range.
  abbrev pub Answered : Bool → Type 0
  Answered r =
      MatchBool r (AllWithin (λ i. test i ≡ true) range 0 (length range))
      ((k : ℕ) × (k < length range) × HoldsAt (λ i. test i ≡ false) range k)

  pub all-range : (r : Bool) → Answered r → r ≡ not (any_below n (λ i. not (test i)))
  all-range true h =
      sym (ap not (none-i n (λ i. not (test i)) (λ j low e.
      let m : j < length range = omega (arith, length-range_with_len 0 n) in
      let is : 0 + j ≡ j = omega arith in
      let t : test j ≡ true = rw (get_or-range_with_len 0 n j 0 low, is) at (h j 0 (omega arith) m) in
      not-both e t)))
  all-range false h =
      let low : h.0 < n = omega (arith, length-range_with_len 0 n, h.1) in
      let is : 0 + h.0 ≡ h.0 = omega arith in
      let t : test h.0 ≡ false = rw (get_or-range_with_len 0 n h.0 0 low, is) at (h.2 0) in
      sym (ap not (any-i n (λ i. not (test i)) h.0 low (ap not t)))
