-- What the loops over the lanes find. Assumes nothing.
use Rattle.std.specs.Prelude.{◌≡◌, refl, Bool, true, false, ◌||◌, List, ℕ, ◌+◌, ◌<◌, eqb, get_or}
use Rattle.std.proofs.Common.{sym, ap, ◌∙◌, add-one}
use Rattle.std.proofs.lemmas.Bool.{false≢true}
use native.Mathlib.Nat.{zero-add}
use mir.Val.{bool_byte}
use Rattle.model.specs.Search.{any_below}
use Rattle.laws.specs.Search.{any-i, none-i}
use Rattle.lanes.specs.Lit.{lit}

-- Some lane below j + 1.
pub any_step : (p : ℕ → Bool) (j : ℕ) → any_below (j + 1) p ≡ (any_below j p || p j)
unfolding any_below
any_step p j = rw (add-one j)

-- Some lane of the 64.
pub some-is : (p : ℕ → Bool) (some : Bool) → (some ≡ true → (j : ℕ) × (j < 64) × (p j ≡ true))
    → (some ≡ false → (j : ℕ) → j < 64 → p j ≡ false) → some ≡ any_below 64 p
some-is p true found none = let w = found refl in sym (any-i 64 p w.0 w.1 w.2)
some-is p false found none = sym (none-i 64 p (λ j l e. false≢true (sym (none refl j l) ∙ e)))

-- A lane with the byte of a test is lit where the test holds.
pub lit-byte : (live : List ℕ) (j : ℕ) (b : Bool) → get_or live (0 + j) 0 ≡ bool_byte b → lit live j ≡ b
unfolding lit
lit-byte live j b e =
    let q : get_or live j 0 ≡ bool_byte b = ap (λ (x : ℕ). get_or live x 0) (sym (zero-add j)) ∙ e in rw q (back b)
  where
    back : (b : Bool) → eqb (bool_byte b) 1 ≡ b
    back true = refl
    back false = refl
