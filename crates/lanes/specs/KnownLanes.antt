-- What each loop over 64 lanes leaves in lane j (what is told: `exits` of `plan`).
use Rattle.std.specs.Prelude.{◌≡◌, cond, List, ℕ, ◌+◌, ◌<◌, ◌≤◌, eqb, get_or}
use Rattle.std.specs.Int.Bits.{bit_or}
use Rattle.plan.specs.declared.vetted.exit_masks.{Exit.Exit}
use Rattle.plan.specs.Told.{told_code, bits}

-- Nothing is known of a lane that is lit.
unfoldable pub start_lane : List ℕ → ℕ → ℕ
start_lane live j = cond (eqb (get_or live j 0) 1) 0 3

-- What was known and the code's own bits.
unfoldable pub add_lane : List ℕ → ℕ → List ℕ → ℕ → ℕ
add_lane codes from known j = bit_or (get_or known j 0) (get_or codes (from + j) 0)

-- What was known and what is told by codes 1, 2 and 3.
unfoldable pub pick_code : ℕ → ℕ → ℕ → ℕ → ℕ
pick_code first second unranked c = cond (eqb c 1) first (cond (eqb c 2) second (cond (eqb c 3) unranked 0))

unfoldable pub pick_lane : ℕ → ℕ → ℕ → List ℕ → ℕ → List ℕ → ℕ → ℕ
pick_lane first second unranked codes from known j =
    bit_or (get_or known j 0) (pick_code first second unranked (get_or codes (from + j) 0))

-- The bits of what is known.
unfoldable pub bits_lane : List ℕ → ℕ → ℕ
bits_lane known j = bits (get_or known j 0)

-- In each lane that has a code: what was known, and what the code tells by mask m.
pub record Told (m : Exit) (codes : List ℕ) (from : ℕ) (old new : List ℕ) : Type 0 where
  pub made : (j : ℕ) → j < 64 → get_or codes (from + j) 0 < 4
      → get_or new j 0 ≡ bit_or (get_or old j 0) (told_code m (get_or codes (from + j) 0))

-- Nothing can be added in the first n lanes.
pub record Ended (known : List ℕ) (n : ℕ) : Type 0 where
  pub each : (j : ℕ) → j < n → 3 ≤ get_or known j 0
