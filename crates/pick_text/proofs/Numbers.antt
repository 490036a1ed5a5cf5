-- The numbers in a run of bytes, one after the other. Assumes nothing.
use mathlib.Core.Path.{◌≡◌, refl, ap₂, ◌∙◌}
use mathlib.Core.List.{List, [], ◌∷◌, ◌++◌}
use Prim.Native.Nat.{ℕ, zero, suc, ◌+◌, ◌*◌, ◌<◌}
use native.Mathlib.Omega.{arith}
use native.Mathlib.Numerals.{add-one}
use lib.IntN.{ℤ}
use lib.ListN.{length, take, set, length-append}
use lib.Seq.{take-suc-set}
use Rattle.model.specs.Bytes.{word_at, signed, numbers}

-- There are as many as are asked.
pub numbers-length : (bytes : List ℕ) (n : ℕ) → length (numbers bytes n) ≡ n
unfolding numbers
numbers-length bytes zero = refl
numbers-length bytes (suc n) =
    omega (arith, length-append (numbers bytes n) (signed (word_at bytes (4 * n)) ∷ []), numbers-length bytes n)

-- One number more is stored.
pub numbers-store : (bytes : List ℕ) (run : List ℤ) (i : ℕ) (z : ℤ) → i < length run → take i run ≡ numbers bytes i
    → z ≡ signed (word_at bytes (4 * i)) → take (i + 1) (set run i z) ≡ numbers bytes (i + 1)
unfolding numbers
numbers-store bytes run i z h e v =
    rw add-one (take-suc-set run i z h ∙ ap₂ (λ (x : List ℤ) (y : ℤ). x ++ (y ∷ [])) e v)
