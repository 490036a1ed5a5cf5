-- What a loop that writes a stretch of a list leaves.
use Rattle.std.specs.Prelude.{◌≡◌, List, ℕ, ◌+◌, ◌≤◌, ◌<◌, get_or}

-- `new` is `old` with its n entries from a on made by f.
pub record Wrote {A : Type 0} (z : A) (f : ℕ → A) (a n : ℕ) (old new : List A) : Type 0 where
  pub made : (j : ℕ) → j < n → get_or new (a + j) z ≡ f j
  pub below : (x : ℕ) → x < a → get_or new x z ≡ get_or old x z
  pub above : (x : ℕ) → a + n ≤ x → get_or new x z ≡ get_or old x z
