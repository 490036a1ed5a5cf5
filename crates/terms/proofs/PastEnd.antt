-- Past the table's end every number is 0. Assumes nothing.
use mathlib.Core.Path.{◌≡◌}
use mathlib.Core.Bool.{Bool, true, false, cond}
use mathlib.Core.List.{List}
use Prim.Native.Nat.{ℕ, ◌+◌, ◌*◌, ◌/◌, ◌%◌, ◌≤◌}
use native.Mathlib.Omega.{arith}
use lib.Dec.{eqb}
use lib.IntN.{ℤ, pos}
use lib.ListN.{length, get_or-eq_default}
use Rattle.model.specs.Bytes.{byte_at, word_at, signed}
use Rattle.model.specs.Record.{u_at, v_at}
use Rattle.terms.specs.Prepared.{number_at}

byte_past : (table : List ℕ) (at : ℕ) → length table ≤ at → byte_at table at ≡ 0
unfolding byte_at
byte_past table at l = get_or-eq_default table 0 l

signed-past : (table : List ℕ) (at : ℕ) → length table ≤ at → signed (word_at table at) ≡ pos 0
unfolding word_at signed
signed-past table at l =
    rw (byte_past table at l, byte_past table (at + 1) (omega arith), byte_past table (at + 2) (omega arith), byte_past table (at + 3) (omega arith))

either : (b : Bool) (x y : ℤ) → x ≡ pos 0 → y ≡ pos 0 → cond b x y ≡ pos 0
either true x y p q = p
either false x y p q = q

pub number_past : (table : List ℕ) (i : ℕ) → length table ≤ 12 * (i / 2) → number_at table i ≡ pos 0
unfolding number_at u_at v_at
number_past table i l =
    either (eqb (i % 2) 0) _ _ (signed-past table (12 * (i / 2) + 4) (omega arith)) (signed-past table (12 * (i / 2) + 8) (omega arith))
