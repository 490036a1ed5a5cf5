-- Entries written in a row as a stretch. Assumes nothing.
use Rattle.std.specs.Prelude.{◌≡◌, List, ℕ, ◌+◌, ◌-◌, ◌<◌, ◌≤◌, ltb, ℤ, pos, get_or}
use Rattle.std.proofs.Common.{⊎_elim, ltb-true, ltb-false, arith}
use Rattle.laws.specs.Bools.{on-or-off}
use Rattle.laws.specs.Wrote.{Wrote}
use Rattle.rows.specs.Stretch.{Stretch}

-- What is neither below a stretch nor in it is above.
after : (m at p : ℕ) → ((j : ℕ) → j < m → p ≡ at + j → ⊥) → at ≤ p → at + m ≤ p
after m at p g l =
    ⊎_elim (λ t. absurd (g (p - at) (omega (arith, ltb-true p (at + m) t, l)) (omega (arith, l))))
    (λ t. ltb-false p (at + m) t)
    (on-or-off (ltb p (at + m)))

stays : (f : ℕ → ℤ) (m at : ℕ) (old new : List ℤ) → Wrote (pos 0) f at m old new → (p : ℕ)
    → ((j : ℕ) → j < m → p ≡ at + j → ⊥) → get_or new p (pos 0) ≡ get_or old p (pos 0)
stays f m at old new w p g =
    ⊎_elim (λ t. w.below p (ltb-true p at t)) (λ t. w.above p (after m at p g (ltb-false p at t))) (on-or-off (ltb p at))

module _ (Q : ℕ → ℤ → Type 0) (m at : ℕ) (old new : List ℤ) where
  -- What is written is right, and the rest is as it was.
  pub wrote-stretch : (f : ℕ → ℤ) → ((j : ℕ) → j < m → Q j (f j)) → Wrote (pos 0) f at m old new → Stretch Q m at old new
  wrote-stretch f h w =
      record {
        here = λ j l. rw (w.made j l) (h j l);
        kept = stays f m at old new w;
      }

  -- Entries made from copied cells are made from what was copied: P says what the cells are.
  pub cells-stretch : (P : ℕ → ℤ → Type 0) (f : ℤ → ℤ) (blank cells : List ℤ) → ((j : ℕ) (x : ℤ) → P j x → Q j (f x))
      → Stretch P m 0 blank cells → Wrote (pos 0) (λ j. f (get_or cells j (pos 0))) at m old new → Stretch Q m at old new
  cells-stretch P f blank cells h c =
      wrote-stretch (λ j. f (get_or cells j (pos 0)))
      (λ j l. let d : 0 + j ≡ j = omega arith in h j (get_or cells j (pos 0)) (rw d at (c.here j l)))

  -- One number for every row.
  pub one-stretch : (y : ℤ) → ((j : ℕ) → j < m → Q j y) → Wrote (pos 0) (λ j. y) at m old new → Stretch Q m at old new
  one-stretch y = wrote-stretch (λ j. y)
