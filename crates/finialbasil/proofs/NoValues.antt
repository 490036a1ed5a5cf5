-- A refusal gives no values. Assumes nothing.
use mathlib.Core.Path.{◌≡◌, refl}
use mathlib.Core.List.{[]}
use Rattle.model.specs.declared.Refusal.{Refusal}
use Rattle.model.specs.Replies.{listed}

pub no-values : (why : Refusal) → (listed why).values ≡ []
no-values Refusal.Width = refl
no-values Refusal.Length = refl
no-values (Refusal.Kind k) = refl
no-values (Refusal.Filler k) = refl
no-values (Refusal.Column k) = refl
no-values (Refusal.Part k) = refl
no-values (Refusal.Reused k) = refl
no-values (Refusal.Stray k) = refl
no-values (Refusal.Crowd k) = refl
no-values (Refusal.Clash k) = refl
no-values (Refusal.Loop k) = refl
no-values (Refusal.Bounds k) = refl
no-values (Refusal.Apart k) = refl
no-values (Refusal.Loose k) = refl
no-values Refusal.Rows = refl
no-values Refusal.Term = refl
no-values Refusal.Group = refl
no-values Refusal.Short = refl
