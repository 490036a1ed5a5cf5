-- The cells of rows by block, as a loop over blocks and one over columns fill them in. Assumes nothing.
use mathlib.Core.Path.{◌≡◌, ◌∙◌}
use mathlib.Core.Logic.{⊎_elim}
use mathlib.Core.List.{List}
use Prim.Native.Nat.{ℕ, ◌+◌, ◌*◌, ◌<◌, ◌≤◌}
use native.Mathlib.Omega.{arith}
use lib.IntN.{ℤ, pos}
use lib.ListN.{get_or}
use Rattle.model.specs.Better.{cell}
use Rattle.model.specs.Query.{row_at}
use Rattle.laws.specs.Search.{lt-suc-cases}
use Rattle.rows.specs.Values.{Valued, Filled}
use Rattle.rows.specs.Places.{place-apart}
use Rattle.rows.specs.Stretch.{Stretch}

module _ (columns : ℕ) (rows : List ℤ) (n : ℕ) where
  -- No block yet.
  pub filled_none : (values : List ℤ) → Filled columns rows n 0 0 values
  filled_none values =
      record { below = λ a j h k l m. absurd (omega (arith, m)); here = λ j h k l m. absurd (omega (arith, m)) }

  -- All columns of a block.
  pub filled-block : (b : ℕ) (values : List ℤ) → Filled columns rows n b columns values → Filled columns rows n (b + 1) 0 values
  filled-block b values f =
      record {
        below = λ a j h k l m o. ⊎_elim (λ q. f.below a j h k l q o) (λ q. last a j h k l q o) (lt-suc-cases a b (omega (arith, m)));
        here = λ j h k l m. absurd (omega (arith, m));
      }
    where
      last : (a j h : ℕ) → j < 64 → a * 64 + j < n → a ≡ b → h < columns
          → get_or values (a * 512 + h * 64 + j) (pos 0) ≡ cell (row_at columns rows (a * 64 + j)) h
      last a j h k l q o = rw q (f.here j h k (rw q at l) o)

  -- All blocks.
  pub filled-all : (b : ℕ) (values : List ℤ) → n ≤ b * 64 → Filled columns rows n b 0 values → Valued columns rows n columns values
  filled-all b values e f = record { each = λ a j h k l o. f.below a j h k l (omega (arith, e, l)) o }

  -- One column of block b more.
  pub filled-column : (b c m : ℕ) (before after : List ℤ) → columns ≤ 8 → c < columns → m ≤ 64
      → ((j : ℕ) → j < 64 → b * 64 + j < n → j < m)
      → Stretch (λ j y. y ≡ cell (row_at columns rows (b * 64 + j)) c) m (b * 512 + c * 64) before after → Filled columns rows n b c before
      → Filled columns rows n b (c + 1) after
  filled-column b c m before after few w most all s f =
      record {
        below = λ a j h k l o q. apart a j h k q (λ i u x y. omega (arith, o, k, y)) ∙ f.below a j h k l o q;
        here = λ j h k l o. ⊎_elim
            (λ q. apart b j h k (omega (arith, q, w)) (λ i u x y. omega (arith, q, x)) ∙ f.here j h k l q)
            (λ q. new j h k l q)
            (lt-suc-cases h c (omega (arith, o)));
      }
    where
      apart : (a j h : ℕ) → j < 64 → h < columns → ((i : ℕ) → i < m → h ≡ c → a * 64 + j ≡ b * 64 + i → ⊥)
          → get_or after (a * 512 + h * 64 + j) (pos 0) ≡ get_or before (a * 512 + h * 64 + j) (pos 0)
      apart a j h k q never =
          s.kept (a * 512 + h * 64 + j)
          (λ i l e. let d = place-apart 512 a h j b c i k (omega (arith, l, most)) (omega (arith, q, few)) (omega (arith, w, few)) e in
          never i l d.0 d.1)

      new : (j h : ℕ) → j < 64 → b * 64 + j < n → h ≡ c
          → get_or after (b * 512 + h * 64 + j) (pos 0) ≡ cell (row_at columns rows (b * 64 + j)) h
      new j h k l q = rw q (s.here j (all j k l))
