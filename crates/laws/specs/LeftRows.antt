-- The run of the rows that are left, row by row (SPECIFICATION, "Leaving out rows"). Assumes nothing.
use Rattle.std.specs.Prelude.{◌≡◌, refl, ◌⊎◌, Bool, ◌&&◌, List, [], ◌∷◌, ◌++◌, ltb, ℤ, get_or, take, drop}
use Rattle.std.proofs.Math.Path.{sym, ap}
use Rattle.std.proofs.Common.{◌∙◌, inl, inr, append-nil, append_assoc, add-zero, add-suc, div-add-mod', div-mul-le_self, add-one, drop_at, ltb-true, ltb-false}
use Rattle.std.proofs.Math.Bool.{true, false, cond}
use Prim.Native.Nat.{ℕ, zero, suc, ◌+◌, ◌*◌, ◌/◌, ◌%◌, ◌<◌, ◌≤◌}
use Rattle.std.proofs.Math.Nat.{mul-le-mul_right, div-eq_of_eq-mul_left}
use native.Mathlib.Omega.{arith}
use Rattle.std.proofs.Math.ListN.{length, length-append, length-drop, get_or-append}
use Rattle.std.proofs.lemmas.List.{drop-append-le}
use Rattle.std.proofs.Math.Seq.{drop-append-add, take-append-le, take_all, length-take-le, get_or-append_seam}
use Rattle.model.specs.Search.{count_below, list_below}
use Rattle.model.specs.Query.{row_count, row_at}
use Rattle.model.specs.Leaving.{left_below, left_rows, old_number}
use Rattle.laws.specs.Bools.{on-or-off}
use Rattle.laws.specs.Renumbered.{list_length}

-- ---- rows of runs one after the other

module _ (w : ℕ) where
  -- A row of the run has w cells.
  row-size : (run : List ℤ) (n : ℕ) → suc n * w ≤ length run → length (row_at w run n) ≡ w
  unfolding row_at
  row-size run n h = length-take-le w (drop (n * w) run) (omega (arith, length-drop (n * w) run))

  module _ (a b : List ℤ) (c : ℕ) (e : length a ≡ c * w) where
    -- The rows of the first,
    pub row_first : (i : ℕ) → i < c → row_at w (a ++ b) i ≡ row_at w a i
    unfolding row_at
    row_first i h =
        let m : suc i * w ≤ c * w = mul-le-mul_right w h in
        ap (take w) (drop-append-le (i * w) a b (omega (arith, e, m)))
        ∙ take-append-le w (drop (i * w) a) b (omega (arith, e, m, length-drop (i * w) a))

    -- then those of the second,
    pub row-second : (i : ℕ) → row_at w (a ++ b) (c + i) ≡ row_at w b i
    unfolding row_at
    row-second i =
        let q : (c + i) * w ≡ length a + i * w = omega (arith, e) in
        ap (take w) (rw q (drop-append-add a b (i * w)))

    -- which is that row itself if it has one.
    row_last : length b ≡ w → row_at w (a ++ b) c ≡ b
    unfolding row_at
    row_last f = ap (take w) (drop_at a b (c * w) e) ∙ take_all w b (omega (arith, f))

-- ---- the rows that are left

module _ (w : ℕ) (run : List ℤ) (p : ℕ → Bool) where
  -- As many cells as their rows have.
  pub left-length : (n : ℕ) → n * w ≤ length run → length (left_below w run p n) ≡ count_below n p * w
  unfolding left_below count_below
  left-length zero h = omega arith
  left-length (suc n) h = go (p n) (left-length n (omega arith))
    where
      go : (b : Bool) → length (left_below w run p n) ≡ count_below n p * w
          → length (left_below w run p n ++ cond b (row_at w run n) []) ≡ (count_below n p + cond b 1 0) * w
      go true e = length-append (left_below w run p n) (row_at w run n) ∙ omega (arith, e, row-size w run n h)
      go false e = ap length (append-nil (left_below w run p n)) ∙ omega (arith, e)

  -- Row i of them is the row that has number i now.
  pub left-row : (n : ℕ) → n * w ≤ length run → (i : ℕ) → i < count_below n p
      → row_at w (left_below w run p n) i ≡ row_at w run (old_number n p i)
  unfolding left_below count_below old_number list_below
  left-row zero h i l = absurd (omega arith)
  left-row (suc n) h i l = go (on-or-off (ltb i (count_below n p))) (p n) l (left-row n (omega arith) i)
    where
      c : ℕ
      c = count_below n p

      go : (ltb i c ≡ true) ⊎ (ltb i c ≡ false) → (d : Bool) → i < c + cond d 1 0
          → (i < c → row_at w (left_below w run p n) i ≡ row_at w run (get_or (list_below n p) i 0))
          → row_at w (left_below w run p n ++ cond d (row_at w run n) []) i
          ≡ row_at w run (get_or (list_below n p ++ cond d (n ∷ []) []) i 0)
      go (inl t) d m ih =
          let k = ltb-true i c t in
          row_first w (left_below w run p n) (cond d (row_at w run n) []) c (left-length n (omega arith)) i k
          ∙ ih k
          ∙ sym (ap (row_at w run)
          (get_or-append (list_below n p) (cond d (n ∷ []) []) 0 i (omega (arith, k, list_length n p))))
      go (inr t) true m ih =
          let z : i ≡ c = omega (arith, m, ltb-false i c t) in
          let y : i ≡ length (list_below n p) = z ∙ sym (list_length n p) in
          let u : get_or (list_below n p ++ n ∷ []) i 0 ≡ n = rw y (get_or-append_seam (list_below n p) n [] 0) in
          let v : row_at w (left_below w run p n ++ row_at w run n) i ≡ row_at w run n =
          rw z (row_last w (left_below w run p n) (row_at w run n) c (left-length n (omega arith)) (row-size w run n h)) in
          v ∙ sym (ap (row_at w run) u)
      go (inr t) false m ih = absurd (omega (arith, m, ltb-false i c t))

-- Runs and tests that agree below n leave the same rows.
pub left-ext : (w : ℕ) (run run' : List ℤ) (p q : ℕ → Bool) (n : ℕ) → ((i : ℕ) → i < n → row_at w run i ≡ row_at w run' i)
    → ((i : ℕ) → i < n → p i ≡ q i) → left_below w run p n ≡ left_below w run' q n
unfolding left_below
left-ext w run run' p q zero f g = refl
left-ext w run run' p q (suc n) f g =
    rw (
      left-ext w run run' p q n (λ i h. f i (omega arith)) (λ i h. g i (omega arith)),
      f n (omega arith),
      g n (omega arith),
    )

-- Leaving out twice is leaving out once.
pub left-twice : (w : ℕ) (run : List ℤ) (p q : ℕ → Bool) (n : ℕ) → n * w ≤ length run
    → left_below w (left_below w run p n) q (count_below n p) ≡ left_below w run (λ k. p k && q (count_below k p)) n
unfolding left_below count_below
left-twice w run p q zero h = refl
left-twice w run p q (suc n) h = go (p n) (left-twice w run p q n (omega arith))
  where
    once : ℕ → Bool
    once k = p k && q (count_below k p)

    L : List ℤ
    L = left_below w run p n

    c : ℕ
    c = count_below n p

    go : (d : Bool) → left_below w L q c ≡ left_below w run once n
        → left_below w (L ++ cond d (row_at w run n) []) q (c + cond d 1 0)
        ≡ left_below w run once n ++ cond (d && q c) (row_at w run n) []
    go true ih =
        let l = left-length w run p n (omega arith) in
        let r = row_last w L (row_at w run n) c l (row-size w run n h) in
        let k = left-ext w (L ++ row_at w run n) L q q c (row_first w L (row_at w run n) c l) (λ i m. refl) in
        rw add-one (rw (k, r, ih))
    go false ih = rw (append-nil L, add-zero c, append-nil (left_below w run once n)) ih

-- What is left of two runs together is what is left of the first, then what is left of the second.
pub left-append : (w : ℕ) (a b : List ℤ) (c : ℕ) → length a ≡ c * w → (s : ℕ → Bool) (m : ℕ)
    → left_below w (a ++ b) s (c + m) ≡ left_below w a s c ++ left_below w b (λ j. s (c + j)) m
unfolding left_below
left-append w a b c e s zero =
    rw (add-zero c, append-nil (left_below w a s c)) (left-ext w (a ++ b) a s s c (row_first w a b c e) (λ i h. refl))
left-append w a b c e s (suc m) =
    rw (add-suc c m) (rw (left-append w a b c e s m, row-second w a b c e m)
    (append_assoc (left_below w a s c) (left_below w b (λ j. s (c + j)) m) (cond (s (c + m)) (row_at w b m) [])))

-- ---- runs of whole rows

module _ (w : ℕ) (some : 1 ≤ w) where
  -- A run of whole rows has as many as its length says.
  pub whole-rows : (run : List ℤ) → length run % w ≡ 0 → length run ≡ row_count w run * w
  unfolding row_count
  whole-rows run e = sym (div-add-mod' (length run) w) ∙ rw e (omega arith)

  -- A run of c rows.
  pub rows_of : (run : List ℤ) (c : ℕ) → length run ≡ c * w → row_count w run ≡ c
  unfolding row_count
  rows_of run c e = div-eq_of_eq-mul_left some e

  -- Two runs together.
  pub append-rows : (a b : List ℤ) (c d : ℕ) → length a ≡ c * w → length b ≡ d * w → length (a ++ b) ≡ (c + d) * w
  append-rows a b c d la lb = length-append a b ∙ omega (arith, la, lb)

  -- The rows that are left are whole, and are as many as stay.
  pub left-rows-length : (run : List ℤ) (stays : ℕ → Bool)
      → length (left_rows w run stays) ≡ count_below (row_count w run) stays * w
  unfolding left_rows row_count
  left-rows-length run stays = left-length w run stays (length run / w) (div-mul-le_self (length run) w)

  pub left-rows-count : (run : List ℤ) (stays : ℕ → Bool)
      → row_count w (left_rows w run stays) ≡ count_below (row_count w run) stays
  left-rows-count run stays =
      rows_of (left_rows w run stays) (count_below (row_count w run) stays) (left-rows-length run stays)
