-- The buffers that rows are compared with. Assumes nothing.
use Prim.Native.Nat.{ℕ, ◌≤◌}
use native.Mathlib.Omega.{arith}
use lib.ListN.{length, replicate, get_or-replicate, length-replicate}
use Rattle.direct.specs.Rooms.{Cleared}

-- Buffers of zeros, with room for so many rows.
pub cleared : {n : ℕ} (size : ℕ) → n ≤ size
    → Cleared n (replicate size 0) (length (replicate {A = ℕ} size 0)) (length (replicate {A = ℕ} size 0))
cleared {n} size h =
    let room : n ≤ length (replicate {A = ℕ} size 0) = rw (length-replicate {A = ℕ} size 0) h in
    record {
      none = λ j l. get_or-replicate size j 0 0 (omega (arith, l, h));
      of_gone = room;
      of_by = room;
      of_kept = room;
    }
