-- KIND looks at a record's kind alone, COLUMN at kind and p, and STRAY at the kind of the term. Assumes nothing.
use mathlib.Core.Path.{◌≡◌, refl}
use mathlib.Core.Bool.{Bool, true, false, cond}
use Prim.Native.Nat.{ℕ}
use lib.IntN.{ℤ, pos}
use Rattle.model.specs.declared.{Record.Record}
use Rattle.model.specs.Record.{record_of, roles_of}
use Rattle.model.specs.Check.{fails_kind, fails_column}

-- What is told of one of two records is told of each.
by_cond : {A : Type 0} (f : Record → A) (b : Bool) (x y : Record) → f (cond b x y) ≡ cond b (f x) (f y)
by_cond f true x y = refl
by_cond f false x y = refl

module _ (kind p q : ℕ) (u v : ℤ) where
  pub kind-shape : fails_kind (record_of kind 0 0 (pos 0) (pos 0)) ≡ fails_kind (record_of kind p q u v)
  unfolding record_of
  kind-shape = simp (by_cond fails_kind)

  pub column-shape : (columns : ℕ) → fails_column columns (record_of kind p 0 (pos 0) (pos 0)) ≡ fails_column columns (record_of kind p q u v)
  unfolding record_of
  column-shape columns = simp (by_cond (fails_column columns))

  pub roles-shape : roles_of (record_of kind 0 0 (pos 0) (pos 0)) ≡ roles_of (record_of kind p q u v)
  unfolding record_of
  roles-shape = simp (by_cond roles_of)
