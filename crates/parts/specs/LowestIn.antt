-- The lowest kept row of a block that is better than a row, over any relation: `beats j i` reads "row j is in row i's set and
-- better".
use Rattle.std.specs.Prelude.{◌≡◌, true, false, Option, List, ℕ, ◌+◌, ◌<◌}
use Rattle.std.specs.Option.{MatchOption}
use Rattle.laws.specs.Order.{Rel}
use Rattle.lanes.specs.Lit.{hit}
use Rattle.laws.specs.Named.{kept_better}

-- Lane r is the lowest of the lit lanes with code 2.
pub record FirstHit (live codes : List ℕ) (top r : ℕ) : Type 0 where
  pub lane : r < 64
  pub hits : hit live codes top 2 r ≡ true
  pub least : (j : ℕ) → j < r → hit live codes top 2 j ≡ false

-- None of the 64 rows from row lo on is kept and better than row i.
pub record NoneIn (beats : Rel ℕ) (n i lo : ℕ) : Type 0 where
  pub none : (j : ℕ) → j < 64 → lo + j < n → kept_better beats n i (lo + j) ≡ false

-- Of them the one in lane r is the lowest that is.
pub record FirstIn (beats : Rel ℕ) (n i lo r : ℕ) : Type 0 where
  pub lane : r < 64
  pub row : lo + r < n
  pub better : kept_better beats n i (lo + r) ≡ true
  pub least : (j : ℕ) → j < r → kept_better beats n i (lo + j) ≡ false

-- The lane of the lowest, if there is one.
abbrev pub LowestIn : Rel ℕ → ℕ → ℕ → ℕ → Option ℕ → Type 0
LowestIn beats n i lo lane = MatchOption lane (NoneIn beats n i lo) (FirstIn beats n i lo)
