-- The mark of a base term (SPECIFICATION, "Perfect").
use Rattle.std.specs.Prelude.{Bool, true, false, List, ℤ}
use Rattle.model.specs.declared.{Value.Value, BaseTerm.BaseTerm}
use Rattle.laws.specs.Extremes.{none_better, none_worse}

-- No 32-bit value is better; beneath an odd number of DUALs, none is worse.
abbrev pub base_mark : (odd : Bool) → BaseTerm → List Value → ℤ → Bool
base_mark false b values x = none_better b values x
base_mark true b values x = none_worse b values x
