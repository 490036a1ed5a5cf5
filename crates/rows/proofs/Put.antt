-- Entries that were lent as a slice are a stretch of the whole. Assumes nothing.
use mathlib.Core.Path.{◌≡◌, sym, subst}
use mathlib.Core.Logic.{⊎_elim}
use mathlib.Core.List.{List}
use Prim.Native.Nat.{ℕ, ◌+◌, ◌-◌, ◌<◌, ◌≤◌}
use native.Mathlib.Omega.{arith}
use lib.IntN.{ℤ, pos}
use lib.Dec.{ltb}
use lib.ListN.{length, get_or}
use borrow.Author.Rules.{rules}
use borrow.Author.Tests.{ltb-true, ltb-false}
use borrow.Rule.Slice.PartMut.{put_mid}
use Rattle.std.proofs.lemmas.List.{places}
use Rattle.laws.specs.Bools.{on-or-off}
use Rattle.rows.specs.Stretch.{Stretch}

module _ (Q : ℕ → ℤ → Type 0) (at : ℕ) {m : ℕ} (before entries : List ℤ) (room : at + m ≤ length before)
    (long : length entries ≡ m) where
  at-here : (j : ℕ) → j < m → get_or (put_mid at m before entries) (at + j) (pos 0) ≡ get_or entries j (pos 0)
  at-here j l = search (rules, places)

  elsewhere : (p : ℕ) → ((j : ℕ) → j < m → p ≡ at + j → ⊥)
      → get_or (put_mid at m before entries) p (pos 0) ≡ get_or before p (pos 0)
  elsewhere p f =
      ⊎_elim (λ t. let b : p < at = ltb-true p at t in search (rules, places))
      (λ t. ⊎_elim
      (λ u. absurd (f (p - at) (omega (arith, ltb-false p at t, ltb-true p (at + m) u)) (omega (arith, ltb-false p at t))))
      (λ u. let a : at + m ≤ p = ltb-false p (at + m) u in search (rules, places))
      (on-or-off (ltb p (at + m))))
      (on-or-off (ltb p at))

  -- As the write to `before[at..at + m]` shows.
  pub stretch-put : ((j : ℕ) → j < m → Q j (get_or entries j (pos 0))) → Stretch Q m at before (put_mid at (at + m - at) before entries)
  stretch-put right =
      let k : at + m - at ≡ m = omega arith in
      rw k (record { here = λ j l. subst (Q j) (sym (at-here j l)) (right j l); kept = elsewhere })
