-- Reachability as an array of arrays over the ends of the edges in a run of value records (SPECIFICATION, "When a row
-- is better": EXPLICIT).
use Rattle.std.specs.Prelude.{◌≡◌, Bool, false, cond, ◌&&◌, ◌||◌, List, [], ℕ, ◌+◌, ◌/◌, ◌%◌, ◌<◌, eqb, get_or}
use Rattle.model.specs.Bytes.{signed}
use Rattle.model.specs.Better.{reaches}
use Rattle.laws.specs.Runs.{values_between}
use Rattle.records.specs.Fields.{u_word, v_word}

-- End a of the edges after record j, as 32 bits: u and v of record j + 1, of record j + 2, ..
unfoldable pub end_word : List ℕ → ℕ → ℕ → ℕ
end_word table j a = cond (eqb (a % 2) 0) (u_word table (j + 1 + a / 2)) (v_word table (j + 1 + a / 2))

-- A cell of an array of arrays.
unfoldable pub cell_at : List (List Bool) → ℕ → ℕ → Bool
cell_at g a b = get_or (get_or g a []) b false

-- End a has the value of end e or reaches it.
unfoldable pub reaches_at : List ℕ → List (List Bool) → ℕ → ℕ → Bool
reaches_at x g a e = eqb (get_or x a 0) (get_or x e 0) || cell_at g a e

-- End b has the value of end f or is reached from it.
unfoldable pub reached_at : List ℕ → List (List Bool) → ℕ → ℕ → Bool
reached_at x g f b = eqb (get_or x b 0) (get_or x f 0) || cell_at g f b

-- A cell of the closure for one edge more, from end e to end e + 1.
unfoldable pub cell_with : List ℕ → List (List Bool) → ℕ → ℕ → ℕ → Bool
cell_with x g e a b =
    cell_at g a b
    || (eqb (get_or x a 0) (get_or x e 0) || cell_at g a e) && (eqb (get_or x b 0) (get_or x (e + 1) 0) || cell_at g (e + 1) b)

-- The array is the closure of the edges between records j and k, over the ends of all edges after record j.
pub record Closure (table : List ℕ) (j k : ℕ) (g : List (List Bool)) : Type 0 where
  pub each : (a b : ℕ) → a < 32 → b < 32
      → cell_at g a b ≡ reaches (values_between table j k) (signed (end_word table j a)) (signed (end_word table j b))
