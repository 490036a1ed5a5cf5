-- What a value record puts for the cells that it names (SPECIFICATION, "When a row is better").
use Rattle.std.specs.Prelude.{◌≡◌, Bool, cond, ◌&&◌, List, ℕ, zero, suc, ◌+◌, ◌*◌, ◌-◌, eqb, ℤ, pos, get_or, length}
use Rattle.model.specs.declared.Value.{Value}
use Rattle.model.specs.Bytes.{eq_z}
use Rattle.model.specs.Record.{p_at, u_at}
use Rattle.model.specs.Better.{in_role}
use Rattle.laws.specs.Wrote.{Wrote}
use Rattle.terms.specs.Prepared.{number_at}

-- What f makes of cell j and of the entry that stands j places after `at`,
unfoldable pub put_lane : (ℤ → ℤ → ℤ) → List ℤ → List ℤ → ℕ → ℕ → ℤ
put_lane f cells old at j = f (get_or cells j (pos 0)) (get_or old (at + j) (pos 0))

-- and each entry is made so, from the cell beside it and from what it was.
pub record Put (f : ℤ → ℤ → ℤ) (cells before after : List ℤ) : Type 0 where
  pub size : length after ≡ length before
  pub all : Wrote (pos 0) (put_lane f cells before 0) 0 (length before) before after

-- The number is u.
unfoldable pub is_number : ℤ → ℤ → Bool
is_number u x = eq_z x u

-- It is that of value record i, which has that role.
unfoldable pub is_value : List ℕ → ℕ → ℕ → ℤ → Bool
is_value table i role x = eqb (p_at table i) role && eq_z x (u_at table i)

-- One class for a role, another for the others,
unfoldable pub one_role : List Value → ℤ → ℕ → ℤ → ℤ → ℤ
one_role values others role class x = cond (in_role role values x) class others

-- and 0 for the favourites before both.
unfoldable pub two_roles : List Value → ℤ → ℕ → ℤ → ℤ → ℤ
two_roles values others role class x = cond (in_role 1 values x) (pos 0) (one_role values others role class x)

-- The last of n places that has the number, counted from `first`; `none` where none has it.
unfoldable pub last_place : List ℕ → ℕ → ℤ → ℕ → ℤ → ℤ
last_place table first none zero x = none
last_place table first none (suc n) x = cond (is_number (number_at table (first + n)) x) (pos n) (last_place table first none n x)

-- A place among the ends of term k's edges, counted from the first; past the last for a number in no edge.
unfoldable pub edge_place : List ℕ → ℕ → ℕ → ℤ → ℤ
edge_place table k e x =
    last_place table (2 * k + 2) (pos (2 * e - (2 * k + 2))) (2 * e - (2 * k + 2)) x
