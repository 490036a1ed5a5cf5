-- What a record's kind says of the value in it. Assumes nothing.
use mathlib.Core.Path.{◌≡◌, refl, sym, ◌∙◌, ap}
use mathlib.Core.Bool.{Bool, true, false, cond, ◌&&◌, or-false}
use mathlib.Core.List.{List, [], ◌∷◌}
use Prim.Native.Nat.{ℕ}
use lib.Dec.{eqb}
use lib.IntN.{ℤ}
use Rattle.model.specs.declared.{Record.Record, Value.Value}
use Rattle.model.specs.Search.{any_in}
use Rattle.model.specs.Record.{kind_at, p_at, q_at, u_at, v_at, record_of, record_at, value_in}
use Rattle.records.specs.Fields.{value_at}

value-cond : (b : Bool) (x y : Record) → value_in (cond b x y) ≡ cond b (value_in x) (value_in y)
value-cond true x y = refl
value-cond false x y = refl

same : (b : Bool) → cond {A = List Value} b [] [] ≡ []
same true = refl
same false = refl

pub value_of : (kind p q : ℕ) (u v : ℤ)
    → value_in (record_of kind p q u v) ≡ cond (eqb kind 0) (record { role = p; u = u; v = v } ∷ []) []
unfolding record_of
value_of kind p q u v = simp (value-cond, same)

one_value : (b : Bool) (a : Value) (test : Value → Bool) → (b && test a) ≡ any_in (cond b (a ∷ []) []) test
unfolding any_in
one_value true a test = sym (or-false (test a))
one_value false a test = refl

-- A test of the value in a value record.
pub any_value : (table : List ℕ) (k : ℕ) (test : Value → Bool)
    → (eqb (kind_at table k) 0 && test (value_at table k)) ≡ any_in (value_in (record_at table k)) test
unfolding record_at
any_value table k test =
    one_value (eqb (kind_at table k) 0) (value_at table k) test
    ∙ ap (λ (l : List Value). any_in l test) (sym (value_of (kind_at table k) (p_at table k) (q_at table k) (u_at table k) (v_at table k)))
