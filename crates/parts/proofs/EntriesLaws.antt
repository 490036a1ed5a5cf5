-- Writing the entries row by row, and counting the rows that are not gone. Assumes nothing.
use mathlib.Core.Path.{◌≡◌, refl}
use mathlib.Core.List.{List}
use Prim.Native.Nat.{ℕ, ◌+◌}
use native.Mathlib.Omega.{arith}
use native.Mathlib.Numerals.{add-one}
use lib.Dec.{eqb}
use lib.ListN.{get_or, set}
use borrow.Author.Tests.{eq-eqb, ne_eqb}
use Rattle.model.specs.Search.{count_below, fill}
use Rattle.laws.specs.Fill.{fill_step}
use Rattle.parts.specs.Entry.{entry_of}

-- ---- the count

pub count-zero : (gone : List ℕ) → count_below 0 (λ j. eqb (get_or gone j 0) 0) ≡ 0
unfolding count_below
count-zero gone = refl

-- Row i is not gone, and is counted,
pub count-in : (gone : List ℕ) (i : ℕ) → get_or gone i 0 ≡ 0
    → count_below i (λ j. eqb (get_or gone j 0) 0) + 1 ≡ count_below (i + 1) (λ j. eqb (get_or gone j 0) 0)
unfolding count_below
count-in gone i e = rw (add-one i, eq-eqb (get_or gone i 0) 0 e)

-- or it is, and is not.
pub count-out : (gone : List ℕ) (i : ℕ) → (get_or gone i 0 ≡ 0 → ⊥)
    → count_below i (λ j. eqb (get_or gone j 0) 0) ≡ count_below (i + 1) (λ j. eqb (get_or gone j 0) 0)
unfolding count_below
count-out gone i e = rw (add-one i, ne_eqb (get_or gone i 0) 0 e) (omega arith)

-- ---- the entries

pub fill-zero : (f : ℕ → ℕ) (before : List ℕ) → fill 0 f before ≡ before
unfolding fill
fill-zero f before = refl

-- One entry more.
pub entry-put : (f : ℕ → ℕ) (before : List ℕ) (i : ℕ) (l : List ℕ) {v : ℕ} → l ≡ fill i f before → v ≡ f i
    → set l i v ≡ fill (i + 1) f before
entry-put f before i l e q = rw (e, q) (fill_step f before i)

-- A row that is not gone has its own number,
pub entry-own : (gone by : List ℕ) (i : ℕ) → get_or gone i 0 ≡ 0 → i ≡ entry_of gone by i
unfolding entry_of
entry-own gone by i e = rw (eq-eqb (get_or gone i 0) 0 e)

-- and one that is gone the row that is named for it.
pub entry_named : (gone by : List ℕ) (i : ℕ) → (get_or gone i 0 ≡ 0 → ⊥) → get_or by i 0 ≡ entry_of gone by i
unfolding entry_of
entry_named gone by i e = rw (ne_eqb (get_or gone i 0) 0 e)
