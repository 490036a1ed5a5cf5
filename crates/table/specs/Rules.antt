-- The rules that look at a run of value records, with the term handed in.
use Rattle.std.specs.Prelude.{Bool, ◌&&◌, ◌||◌, List, ℕ, eqb}
use Rattle.model.specs.declared.{Value.Value}
use Rattle.model.specs.Bytes.{eq_z}
use Rattle.model.specs.Search.{any_in}
use Rattle.model.specs.Record.{kind_at, p_at}
use Rattle.model.specs.Check.{clash, closes_cycle}
use Rattle.laws.specs.Runs.{values_between}
use Rattle.records.specs.Fields.{value_at}

-- 10 CLASH, of value record k whose term is record j.
unfoldable pub clash_in : List ℕ → ℕ → ℕ → Bool
clash_in table j k =
    (eqb (kind_at table j) 7 || eqb (kind_at table j) 8) && any_in (values_between table j k) (clash (value_at table k))

-- Edge b begins where edge a ends.
unfoldable pub goes_on : Value → Value → Bool
goes_on a b = eq_z a.v b.u

-- Edge b ends where edge a begins.
unfoldable pub goes_back : Value → Value → Bool
goes_back a b = eq_z a.u b.v

-- One of the edges goes on from edge a, and one backward.
unfoldable pub on_and_back : List Value → Value → Bool
on_and_back edges a = any_in edges (goes_on a) && any_in edges (goes_back a)

-- 11 LOOP, of value record k whose term is record j.
unfoldable pub loop_in : List ℕ → ℕ → ℕ → Bool
loop_in table j k = eqb (p_at table k) 4 && closes_cycle (values_between table j k) (value_at table k)
