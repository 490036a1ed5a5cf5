-- A stretch of a list that is written as a slice of its own, lane by lane. Assumes nothing.
use Rattle.std.proofs.Common.{◌≡◌, List, ◌++◌, ℕ, ◌+◌, ◌<◌, ◌≤◌, length, refl, get_or, take, drop, arith, rules, length-drop}
use Rattle.std.proofs.lemmas.List.{places, length-take}
use borrow.Rule.Slice.PartMut.{put_mid}
use Rattle.laws.specs.Wrote.{Wrote}

module _ {A : Type 0} (z : A) (f : ℕ → A) where
  -- The slice of the m lanes from a on, where each lane of `part` is what f says, given what the slice had there.
  pub wrote-part : (a n m : ℕ) (old part : List A) → a + n ≤ length old → m ≡ n → length part ≡ length (take m (drop a old))
      → ((j : ℕ) → j < length (take m (drop a old)) → get_or (take m (drop a old)) j z ≡ get_or old (a + j) z → get_or part j z ≡ f j)
      → Wrote z f a n old (put_mid a m old part)
  wrote-part a n m old part room e len made =
      record {
        made = λ j l.
            let below : j < length (take m (drop a old)) = omega (arith, length-take {A = A}, length-drop {A = A}) in
            let q = made j below (search (rules, places)) in
            search (rules, places);
        below = λ x l. search (rules, places);
        above = λ x l. search (rules, places);
      }

  -- The slice of the first n.
  pub wrote-front : (n : ℕ) (old part : List A) → n ≤ length old → length part ≡ length (take n old)
      → ((j : ℕ) → j < length (take n old) → get_or (take n old) j z ≡ get_or old j z → get_or part j z ≡ f j)
      → Wrote z f 0 n old (part ++ drop n old)
  wrote-front n old part room len made =
      wrote-part 0 n n old part (omega arith) refl len (λ j l o. made j l (search (rules, places)))

  -- The slice of the first n lanes of what `split_at_mut` cut off at a.
  pub wrote-cut : (a n : ℕ) (old front back part : List A) → a + n ≤ length old → front ≡ take a old → back ≡ drop a old
      → length part ≡ length (take n back) → ((j : ℕ) → j < n → j < length (take n back) → get_or part j z ≡ f j)
      → Wrote z f a n old (front ++ (part ++ drop n back))
  wrote-cut a n old front back part room at_front at_back len made =
      rw (at_front, at_back)
      (wrote-part a n n old part room refl (rw at_back at len)
      (λ j l o. made j (omega (arith, length-take {A = A})) (rw at_back l)))
