-- The rows that are left, gathered row by row. Assumes nothing.
use mathlib.Core.Path.{◌≡◌, refl}
use mathlib.Core.Bool.{Bool, true, false}
use mathlib.Core.List.{List, [], ◌∷◌, ◌++◌, append-nil}
use Prim.Native.Nat.{ℕ, suc, ◌+◌, ◌*◌, ◌≤◌}
use native.Mathlib.Nat.{mul-le-mul, add-zero}
use native.Mathlib.Omega.{arith}
use native.Mathlib.Numerals.{add-one}
use lib.IntN.{ℤ}
use lib.ListN.{take}
use Rattle.model.specs.Search.{count_below, list_below}
use Rattle.model.specs.Query.{row_at}
use Rattle.model.specs.Leaving.{left_below}
use Rattle.laws.specs.Search.{count-bound}
use Rattle.demands.specs.Gathered.{Placed, Gathered}

-- There is room for a row of up to 8 cells after fewer than 1,024.
pub placed-small : (columns : ℕ) (rows : List ℤ) (k m : ℕ) → Placed columns rows k m → m * columns + columns ≤ 8192
placed-small columns rows k m p =
    let s : suc m * columns ≤ 1024 * 8 = mul-le-mul p.room p.few in omega (arith, s)

module _ (columns : ℕ) (rows : List ℤ) (stays : ℕ → Bool) where
  -- At first there are none.
  pub gathered_none : (left : List ℤ) (old : List ℕ) → Gathered columns rows stays 0 0 left old
  unfolding count_below left_below list_below
  gathered_none left old =
      let z : 0 * columns ≡ 0 = omega arith in record { count = refl; cells = rw z; numbers = refl }

  module _ (k m : ℕ) (left : List ℤ) (old : List ℕ) (g : Gathered columns rows stays k m left old) where
    -- No more than there were rows.
    pub gathered-few : m ≤ k
    gathered-few = rw g.count (count-bound k stays)

    -- One row more that is left,
    pub gathered-more : (left' : List ℤ) (old' : List ℕ) → stays k ≡ true
        → take (m * columns + columns) left' ≡ take (m * columns) left ++ row_at columns rows k
        → take (m + 1) old' ≡ take m old ++ k ∷ []
        → Gathered columns rows stays (k + 1) (m + 1) left' old'
    unfolding count_below left_below list_below
    gathered-more left' old' on e f =
        let w : (m + 1) * columns ≡ m * columns + columns = omega arith in
        rw (add-one k)
        (record {
          count = rw (on, g.count);
          cells = rw (w, on, e, g.cells);
          numbers = rw (on, f, g.numbers);
        })

    -- or that is not.
    pub gathered-same : stays k ≡ false → Gathered columns rows stays (k + 1) m left old
    unfolding count_below left_below list_below
    gathered-same off =
        rw (add-one k)
        (record {
          count = rw (off, add-zero) g.count;
          cells = rw (off, append-nil) g.cells;
          numbers = rw (off, append-nil) g.numbers;
        })
