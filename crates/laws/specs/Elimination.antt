-- What elimination has found (SPECIFICATION, "Query"), over any relation: `beats j i` reads "row j is in row i's set
-- and better". The list `gone` has 0 for a row that is not gone.
use Rattle.std.specs.Prelude.{◌≡◌, Bool, true, false, List, ℕ, ◌<◌, eqb, get_or}
use Rattle.model.specs.Query.{kept}
use Rattle.laws.specs.Order.{Rel}

-- Neither of the rows a and b beats the other.
abbrev pub Apart : Rel ℕ → ℕ → ℕ → Type 0
Apart beats a b = (beats a b ≡ false) × (beats b a ≡ false)

-- The rounds of the rows below i are over: a row that is gone is dropped, and a row that had its round and is not gone is
-- apart from every later row that is not gone.
pub record Rounds (beats : Rel ℕ) (n i : ℕ) (gone : List ℕ) : Type 0 where
  pub dropped : (j : ℕ) → j < n → (get_or gone j 0 ≡ 0 → ⊥) → kept n beats j ≡ false
  pub apart : (a b : ℕ) → a < i → a < b → b < n → get_or gone a 0 ≡ 0 → get_or gone b 0 ≡ 0 → Apart beats a b

-- In its round row i has met the rows below m and was not beaten.
pub record Turn (beats : Rel ℕ) (n i m : ℕ) (gone : List ℕ) : Type 0 where
  pub rest : Rounds beats n i gone
  pub met : (b : ℕ) → i < b → b < m → b < n → get_or gone b 0 ≡ 0 → Apart beats i b

-- The same, or row i was beaten.
pub record Met (beats : Rel ℕ) (n i m : ℕ) (gone : List ℕ) (lost : Bool) : Type 0 where
  pub rest : Rounds beats n i gone
  pub yes : lost ≡ true → kept n beats i ≡ false
  pub no : lost ≡ false → (b : ℕ) → i < b → b < m → b < n → get_or gone b 0 ≡ 0 → Apart beats i b

-- A row is not gone exactly where it is kept.
pub record Settled (beats : Rel ℕ) (n : ℕ) (gone : List ℕ) : Type 0 where
  pub each : (j : ℕ) → j < n → eqb (get_or gone j 0) 0 ≡ kept n beats j

-- A row that is gone is beaten by the row that `by` names. If that is an earlier row, none before it that is not gone beats it.
pub record Beaten (beats : Rel ℕ) (n : ℕ) (gone by : List ℕ) : Type 0 where
  pub each : (j : ℕ) → j < n → (get_or gone j 0 ≡ 0 → ⊥) → (get_or by j 0 < n) × (beats (get_or by j 0) j ≡ true)
  pub first : (j : ℕ) → j < n → (get_or gone j 0 ≡ 0 → ⊥) → get_or by j 0 < j
      → (a : ℕ) → a < get_or by j 0 → get_or gone a 0 ≡ 0 → beats a j ≡ false
