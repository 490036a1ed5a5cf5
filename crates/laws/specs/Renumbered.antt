-- Rows numbered from 0 again in their old order (SPECIFICATION, "Leaving out rows"): those below n of which a test holds.
-- Assumes nothing.
use Rattle.std.specs.Prelude.{◌≡◌, refl, ◌⊎◌, Bool, true, false, cond, ◌&&◌, [], ◌∷◌, ◌++◌, ℕ, zero, suc, ◌+◌, ◌<◌, ◌≤◌, ltb, length, get_or}
use Rattle.std.proofs.Common.{sym, ◌∙◌, ap, inl, inr, ⊎_elim, add-zero, add-one, arith, length-append, ltb-true, ltb-false}
use Rattle.std.proofs.Math.ListN.{get_or-append}
use Rattle.std.proofs.Math.Seq.{get_or-append_seam}
use Rattle.model.specs.Search.{count_below, list_below}
use Rattle.model.specs.Leaving.{old_number}
use Rattle.laws.specs.Bools.{on-or-off}
use Rattle.laws.specs.Search.{count-ext}

-- Tests that agree list the same numbers.
pub list_ext : (n : ℕ) (p q : ℕ → Bool) → ((j : ℕ) → j < n → p j ≡ q j) → list_below n p ≡ list_below n q
unfolding list_below
list_ext zero p q e = refl
list_ext (suc n) p q e = rw (list_ext n p q (λ j h. e j (omega arith)), e n (omega arith))

-- As many are listed as are counted.
pub list_length : (n : ℕ) (p : ℕ → Bool) → length (list_below n p) ≡ count_below n p
unfolding list_below count_below
list_length zero p = refl
list_length (suc n) p = go (p n) (list_length n p)
  where
    go : (b : Bool) → length (list_below n p) ≡ count_below n p
        → length (list_below n p ++ cond b (n ∷ []) []) ≡ count_below n p + cond b 1 0
    go true e = length-append (list_below n p) (n ∷ []) ∙ omega (arith, e)
    go false e = length-append (list_below n p) [] ∙ omega (arith, e)

-- Row r is left, and i of those that are left stand before it.
pub record Old (n : ℕ) (p : ℕ → Bool) (i r : ℕ) : Type 0 where
  pub row : r < n
  pub stays : p r ≡ true
  pub before : count_below r p ≡ i

-- So is the row that has number i now.
pub old-is : (n : ℕ) (p : ℕ → Bool) (i : ℕ) → i < count_below n p → Old n p i (old_number n p i)
unfolding old_number list_below count_below
old-is zero p i h = absurd (omega arith)
old-is (suc n) p i h = go (on-or-off (ltb i (count_below n p))) (p n) refl h (old-is n p i)
  where
    go : (ltb i (count_below n p) ≡ true) ⊎ (ltb i (count_below n p) ≡ false) → (d : Bool) → p n ≡ d
        → i < count_below n p + cond d 1 0
        → (i < count_below n p → Old n p i (get_or (list_below n p) i 0))
        → Old (suc n) p i (get_or (list_below n p ++ cond d (n ∷ []) []) i 0)
    go (inl t) d q l ih =
        let k = ltb-true i (count_below n p) t in
        let r = ih k in
        rw (get_or-append (list_below n p) (cond d (n ∷ []) []) 0 i (omega (arith, k, list_length n p)))
        (record { row = omega (arith, r.row); stays = r.stays; before = r.before })
    go (inr t) true q l ih =
        let e : i ≡ length (list_below n p) = omega (arith, l, list_length n p, ltb-false i (count_below n p) t) in
        rw (e, get_or-append_seam (list_below n p) n [] 0)
        (record { row = omega arith; stays = q; before = sym (list_length n p) })
    go (inr t) false q l ih = absurd (omega (arith, ltb-false i (count_below n p) t))

-- Below more numbers the test holds of no fewer,
count-mono : (p : ℕ → Bool) (b a : ℕ) → a ≤ b → count_below a p ≤ count_below b p
unfolding count_below
count-mono p zero a h = let z : a ≡ 0 = omega arith in rw z (omega arith)
count-mono p (suc b) a h = go (count-mono p b a) (on-or-off (ltb a (suc b)))
  where
    go : (a ≤ b → count_below a p ≤ count_below b p) → (ltb a (suc b) ≡ true) ⊎ (ltb a (suc b) ≡ false)
        → count_below a p ≤ count_below b p + cond (p b) 1 0
    go ih (inl t) = omega (arith, ih (omega (arith, ltb-true a (suc b) t)))
    go ih (inr t) = let z : a ≡ suc b = omega (arith, ltb-false a (suc b) t) in rw z (omega arith)

-- and of more, past one of which it holds.
count-strict : (p : ℕ → Bool) (a b : ℕ) → p a ≡ true → a < b → count_below a p < count_below b p
unfolding count_below
count-strict p a b q l =
    let m : count_below a p + cond (p a) 1 0 ≤ count_below b p = count-mono p b (suc a) (omega arith) in
    let o : count_below a p + 1 ≤ count_below b p = rw q at m in
    omega (arith, o)

-- Each row that is left has a number: how many that are left stand before it.
pub new-of : (n : ℕ) (p : ℕ → Bool) (k : ℕ) → k < n → p k ≡ true
    → (count_below k p < count_below n p) × (old_number n p (count_below k p) ≡ k)
new-of n p k h e = (less, same)
  where
    less : count_below k p < count_below n p
    less = count-strict p k n e h

    unique : (a b : ℕ) → p a ≡ true → p b ≡ true → count_below a p ≡ count_below b p → a ≡ b
    unique a b q r c =
        ⊎_elim (λ t. absurd (omega (arith, c, count-strict p a b q (ltb-true a b t))))
        (λ t. ⊎_elim (λ u. absurd (omega (arith, c, count-strict p b a r (ltb-true b a u))))
        (λ u. omega (arith, ltb-false a b t, ltb-false b a u)) (on-or-off (ltb b a)))
        (on-or-off (ltb a b))

    same : old_number n p (count_below k p) ≡ k
    same =
        let o = old-is n p (count_below k p) less in
        unique (old_number n p (count_below k p)) k o.stays e o.before

-- Rows that are left keep their order.
pub old-rising : (n : ℕ) (p : ℕ → Bool) (i j : ℕ) → i < j → j < count_below n p → old_number n p i < old_number n p j
old-rising n p i j l h =
    let a = old-is n p i (omega arith) in
    let b = old-is n p j h in
    ⊎_elim
    (λ t. ltb-true (old_number n p i) (old_number n p j) t)
    (λ t. absurd (omega (
      arith,
      a.before,
      b.before,
      count-mono p (old_number n p i) (old_number n p j) (ltb-false (old_number n p i) (old_number n p j) t),
    )))
    (on-or-off (ltb (old_number n p i) (old_number n p j)))

-- With one row more, the rows before it keep their numbers,
old_below : (n : ℕ) (p : ℕ → Bool) (i : ℕ) → i < count_below n p → old_number (suc n) p i ≡ old_number n p i
unfolding old_number list_below
old_below n p i h = get_or-append (list_below n p) (cond (p n) (n ∷ []) []) 0 i (omega (arith, h, list_length n p))

-- and it has the next one, if it is left.
old-last : (n : ℕ) (p : ℕ → Bool) → p n ≡ true → old_number (suc n) p (count_below n p) ≡ n
unfolding old_number list_below
old-last n p e = rw (e, ← (list_length n p), get_or-append_seam (list_below n p) n [] 0)

-- Of how many that are left a test holds, by their numbers now or by the old ones.
pub count_left : (n : ℕ) (p q : ℕ → Bool)
    → count_below (count_below n p) (λ i. q (old_number n p i)) ≡ count_below n (λ k. p k && q k)
unfolding count_below
count_left zero p q = refl
count_left (suc n) p q = go (p n) refl (first (count_left n p q))
  where
    c : ℕ
    c = count_below n p

    first : count_below c (λ i. q (old_number n p i)) ≡ count_below n (λ k. p k && q k)
        → count_below c (λ i. q (old_number (suc n) p i)) ≡ count_below n (λ k. p k && q k)
    first ih =
        count-ext c (λ i. q (old_number (suc n) p i)) (λ i. q (old_number n p i)) (λ i h. ap q (old_below n p i h)) ∙ ih

    go : (d : Bool) → p n ≡ d → count_below c (λ i. q (old_number (suc n) p i)) ≡ count_below n (λ k. p k && q k)
        → count_below (c + cond d 1 0) (λ i. q (old_number (suc n) p i))
        ≡ count_below n (λ k. p k && q k) + cond (d && q n) 1 0
    go true e f = rw add-one (rw (f, old-last n p e))
    go false e f = rw (add-zero c, f) (omega arith)
