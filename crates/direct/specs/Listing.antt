-- The laws of a list of rows that pass a test, and of the list of kept rows. Assumes nothing.
use Rattle.std.specs.Prelude.{◌≡◌, Bool, false, List, eqb, length, get_or, set, take}
use Rattle.std.proofs.Math.Path.{refl}
use Rattle.std.proofs.Common.{sym, ◌∙◌, arith, add-one, get_or-set_same, get_or-set_other}
use Rattle.std.proofs.Math.Bool.{true, cond}
use Rattle.std.proofs.lemmas.Bool.{false≢true}
use Rattle.std.proofs.lemmas.List.{get_or-take, length-take-le}
use Rattle.std.proofs.Math.Logic.{⊎_elim}
use Prim.Native.Nat.{ℕ, zero, suc, ◌+◌, ◌<◌, ◌≤◌}
use Rattle.model.specs.Search.{count_below}
use Rattle.model.specs.Query.{kept}
use Rattle.laws.specs.Bools.{on-or-off}
use Rattle.laws.specs.Search.{lt-suc-cases, count-ext, count-bound}
use Rattle.laws.specs.Order.{Rel}
use Rattle.laws.specs.Cases.{below_or_not}
use Rattle.laws.specs.Elimination.{Settled}
use Rattle.laws.specs.Rounds.{count_kept}
use Rattle.direct.specs.Kept.{Listed, KeptRows}

module _ (pass : ℕ → Bool) where
  -- How many pass: none below 0,
  pub count-start : 0 ≡ count_below 0 pass
  unfolding count_below
  count-start = refl

  -- one more where row i passes,
  pub count-pass : (i : ℕ) → pass i ≡ true → count_below (i + 1) pass ≡ count_below i pass + 1
  unfolding count_below
  count-pass i e = rw (add-one i, e)

  -- and as many where it does not.
  pub count-fail : (i : ℕ) → pass i ≡ false → count_below (i + 1) pass ≡ count_below i pass
  unfolding count_below
  count-fail i e = rw (add-one i, e) (omega arith)

  -- More pass below n than below k, if row k passes.
  pub count_less : (k n : ℕ) → k < n → pass k ≡ true → count_below k pass < count_below n pass
  unfolding count_below
  count_less k zero l e = absurd (omega arith)
  count_less k (suc n) l e = ⊎_elim (earlier (count_less k n)) last (lt-suc-cases k n l)
    where
      earlier : (k < n → pass k ≡ true → count_below k pass < count_below n pass) → k < n
          → count_below k pass < count_below n pass + cond (pass n) 1 0
      earlier ih h =
          let q = ih h e in
          ⊎_elim (λ b. rw b (omega arith)) (λ b. rw b (omega arith)) (on-or-off (pass n))

      last : k ≡ n → count_below k pass < count_below n pass + cond (pass n) 1 0
      last h = let f : pass n ≡ true = rw h at e in rw (h, f) (omega arith)

  -- ---- the list: empty at first,

  pub listed_start : (list : List ℕ) → Listed pass 0 list
  listed_start list = record { place = λ k h. absurd (omega arith) }

  -- as it is where row i does not pass,
  pub listed-skip : (i : ℕ) (list : List ℕ) → pass i ≡ false → Listed pass i list → Listed pass (i + 1) list
  listed-skip i list e s =
      record {
        place = λ k h b. ⊎_elim
            (λ q. s.place k q b)
            (λ q. let f : k ≡ i = omega arith in absurd (false≢true (sym e ∙ rw f at b)))
            (below_or_not k i);
      }

  -- and with row i after the others where it does.
  pub listed-store : (i m : ℕ) (list : List ℕ) → m ≡ count_below i pass → m < length list → pass i ≡ true
      → Listed pass i list → Listed pass (i + 1) (set list m i)
  listed-store i m list c r e s =
      record {
        place = λ k h b. ⊎_elim
            (λ q. let d = count_less k i q b in
            get_or-set_other list m (count_below k pass) i 0 (λ f. omega arith) ∙ s.place k q b)
            (λ q. let f : k ≡ i = omega arith in rw (f, ← c) (get_or-set_same list m i 0 r))
            (below_or_not k i);
      }

-- Tests that agree below n list the same.
pub listed-ext : (p q : ℕ → Bool) (n : ℕ) (list : List ℕ) → ((j : ℕ) → j < n → p j ≡ q j) → Listed p n list → Listed q n list
listed-ext p q n list e s =
    record {
      place = λ k h b. let c = count-ext k p q (λ j g. e j (omega arith)) in rw (← c) (s.place k h (e k h ∙ b));
    }

-- Where m pass, the first m entries list the same.
pub listed_take : (pass : ℕ → Bool) (n m : ℕ) (list : List ℕ) → m ≡ count_below n pass → Listed pass n list
    → Listed pass n (take m list)
listed_take pass n m list c s =
    record {
      place = λ k h b. let l = count_less pass k n h b in
          get_or-take m list (count_below k pass) 0 (omega arith) ∙ s.place k h b;
    }

-- The rows that are not gone at the end, counted and listed, are the kept rows.
pub kept-rows : (beats : Rel ℕ) (n m : ℕ) (gone list : List ℕ) → Settled beats n gone → n ≤ length list
    → m ≡ count_below n (λ j. eqb (get_or gone j 0) 0) → Listed (λ j. eqb (get_or gone j 0) 0) n list
    → KeptRows beats n gone (take m list)
kept-rows beats n m gone list s l c h =
    let t = listed_take (λ j. eqb (get_or gone j 0) 0) n m list c h in
    record {
      settled = s;
      count = length-take-le m list (omega (arith, count-bound n (λ j. eqb (get_or gone j 0) 0))) ∙ c ∙ count_kept beats n gone s;
      listed = listed-ext (λ j. eqb (get_or gone j 0) 0) (kept n beats) n (take m list) s.each t;
    }
