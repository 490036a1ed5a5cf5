-- The low byte of a number of 32 bits is that of the number counted from the lowest. Assumes nothing.
use mathlib.Core.Path.{◌≡◌}
use Prim.Native.Nat.{◌<◌, ◌%◌}
use native.Mathlib.Omega.{arith}
use lib.IntN.{ℤ, pos, negsuc}
use mir.Syntax.{w32}
use mir.Val.{SFits, of_z}
use Rattle.laws.specs.Shift.{shift}

pub low-byte : (z : ℤ) → SFits w32 z → of_z w32 z % 256 ≡ shift z % 256
unfolding shift
low-byte (pos n) f = let h : n < 2147483648 = f.sfits in omega arith
low-byte (negsuc n) f = let h : n < 2147483648 = f.sfits in omega arith
