-- The code of two values (SPECIFICATION, "Compare"): same where they are equal, else by better both ways. Assumes
-- nothing.
use Rattle.std.specs.Prelude.{◌≡◌, true, false, List, ℤ}
use Rattle.std.proofs.Common.{sym, ◌∙◌, SFits, of_z, eq-eqb, ne_eqb}
use Rattle.std.specs.Int.{w32}
use Rattle.model.specs.declared.{Value.Value, BaseTerm.BaseTerm}
use Rattle.model.specs.Bytes.{eq_z}
use Rattle.records.proofs.Signed.{eq-bits}
use Rattle.laws.specs.ValueCodes.{tests_code, apart_code, value_code}

-- Two locals of type i32 with the same bits hold the same number,
pub same_bits : {a b : ℤ} → SFits w32 a → SFits w32 b → of_z w32 a ≡ of_z w32 b → eq_z a b ≡ true
same_bits {a} {b} f g h = sym (eq-bits f g) ∙ eq-eqb (of_z w32 a) (of_z w32 b) h

-- and with other bits another one.
pub other-bits : {a b : ℤ} → SFits w32 a → SFits w32 b → (of_z w32 a ≡ of_z w32 b → ⊥) → eq_z a b ≡ false
other-bits {a} {b} f g h = sym (eq-bits f g) ∙ ne_eqb (of_z w32 a) (of_z w32 b) h

module _ (b : BaseTerm) (values : List Value) where
  -- The same value twice: 0.
  pub same_code : (x y : ℤ) → eq_z x y ≡ true → 0 ≡ value_code b values x y
  unfolding value_code tests_code
  same_code x y h = rw h

  -- Two values: better decides.
  pub other-code : (x y : ℤ) → eq_z x y ≡ false → apart_code b values x y ≡ value_code b values x y
  unfolding value_code apart_code
  other-code x y h = rw h
