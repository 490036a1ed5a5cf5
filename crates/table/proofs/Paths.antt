-- No path begins where no edge does, and none ends where no edge does. Assumes nothing.
use mathlib.Core.Path.{◌≡◌, refl}
use mathlib.Core.Logic.{⊎_elim}
use mathlib.Core.Bool.{Bool, false, ◌||◌, and-false}
use mathlib.Core.List.{List, [], ◌∷◌}
use lib.IntN.{ℤ}
use Rattle.model.specs.declared.{Value.Value}
use Rattle.model.specs.Bytes.{eq_z}
use Rattle.model.specs.Search.{any_in}
use Rattle.model.specs.Better.{reaches}
use Rattle.laws.specs.Bools.{on-or-off}
use Rattle.laws.specs.Members.{or_off, and-off}
use Rattle.table.specs.Rules.{goes_on, goes_back, on_and_back}

starts_none : (es : List Value) (x y : ℤ) → any_in es (λ (b : Value). eq_z x b.u) ≡ false → reaches es x y ≡ false
unfolding any_in reaches
starts_none [] x y h = refl
starts_none (e ∷ es) x y h =
    let n = or_off (eq_z x e.u) (any_in es (λ (b : Value). eq_z x b.u)) h in
    rw (n.0, starts_none es x y n.1, starts_none es x e.u n.1)

ends-none : (es : List Value) (x y : ℤ) → any_in es (λ (b : Value). eq_z y b.v) ≡ false → reaches es x y ≡ false
unfolding any_in reaches
ends-none [] x y h = refl
ends-none (e ∷ es) x y h =
    let n = or_off (eq_z y e.v) (any_in es (λ (b : Value). eq_z y b.v)) h in
    rw (n.0, ends-none es x y n.1, ends-none es e.v y n.1) (and-false (eq_z x e.u || reaches es x e.u))

-- So none leads from an edge's end to its beginning where no edge goes on from it, or none backward.
pub no-path : (es : List Value) (a : Value) → on_and_back es a ≡ false → reaches es a.v a.u ≡ false
unfolding on_and_back goes_on goes_back
no-path es a h =
    let on : Bool = any_in es (goes_on a) in
    ⊎_elim
    (λ e. ends-none es a.v a.u (and-off on (any_in es (goes_back a)) h e))
    (λ e. starts_none es a.v a.u e)
    (on-or-off on)
