-- Ranks as numbers of 32 bits: they are in range, and a local that holds one reads back. Assumes nothing.
use mathlib.Core.Path.{◌≡◌, refl, ◌∙◌, ap}
use mathlib.Core.Bool.{Bool, true, false, cond}
use Prim.Native.Nat.{ℕ, suc, ◌-◌, ◌<◌, ◌≤◌}
use native.Mathlib.Omega.{arith}
use lib.Dec.{ltb}
use lib.IntN.{ℤ, pos, negsuc, ◌-ℤ◌}
use lib.Signed.{mag}
use mir.Syntax.{w32}
use mir.Val.{SFits, to_z, of_z}
use mir.Facts.{to_z-of_z}
use mir.ValLaws.{to_z_pos}
use borrow.Author.Tests.{ltb-true, ltb-false, le-ltb}
use Rattle.model.specs.Bytes.{Value32}
use Rattle.records.proofs.Signed.{minus_one}
use Rattle.ranks.specs.Rank.{mirror}

-- ---- HIGHEST

mirror-is : (x : ℤ) → negsuc 0 -ℤ x ≡ mirror x
unfolding mirror
mirror-is (pos a) = minus_one a
mirror-is (negsuc a) =
    let back : suc a - 1 ≡ a = omega arith in rw (le-ltb (suc a) 1 (omega arith), back)

mirror-small : {x : ℤ} → SFits w32 x → SFits w32 (mirror x)
unfolding mirror
mirror-small {x = pos a} f = record { sfits = f.sfits }
mirror-small {x = negsuc a} f = record { sfits = f.sfits }

-- -1 - x is in range
pub mirror-fits : {x : ℤ} → SFits w32 x → SFits w32 (negsuc 0 -ℤ to_z w32 (of_z w32 x))
mirror-fits {x} f = rw (to_z-of_z f, mirror-is x) (mirror-small f)

-- and is x mirrored.
pub mirrored : {x : ℤ} → SFits w32 x → to_z w32 (of_z w32 (negsuc 0 -ℤ to_z w32 (of_z w32 x))) ≡ mirror x
mirrored {x} f = to_z-of_z (mirror-fits f) ∙ rw (to_z-of_z f) (mirror-is x)

-- ---- AROUND and BETWEEN

-- A distance is in range when it is moved.
pub moved-fits : (d : ℕ) → d ≤ 4294967295 → Value32 (pos d -ℤ pos 2147483648)
moved-fits d h = record { bound = go (ltb d 2147483648) refl }
  where
    go : (t : Bool) → ltb d 2147483648 ≡ t
        → mag (cond t (negsuc (2147483648 - suc d)) (pos (d - 2147483648))) < 2147483648
    go true e = omega (arith, ltb-true d 2147483648 e)
    go false e = omega (arith, ltb-false d 2147483648 e)

-- ---- classes and places

-- A small number of no sign keeps its value.
pub small : (r m : ℕ) → r < 2147483648 → r ≡ m → to_z w32 r ≡ pos m
small r m h e = to_z_pos w32 r h ∙ ap pos e
