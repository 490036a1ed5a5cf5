-- A search downward for the nearest term record. Assumes nothing.
use mathlib.Core.Path.{◌≡◌, sym, ◌∙◌, ap}
use mathlib.Core.Bool.{Bool, true, false, cond}
use mathlib.Core.List.{List}
use Prim.Native.Nat.{ℕ, suc}
use Rattle.model.specs.Record.{record_at, is_term, nearest_term}

module _ (table : List ℕ) (k i m : ℕ) (e : nearest_term table k ≡ nearest_term table i) (s : i ≡ suc m) where
  near : nearest_term table k ≡ cond (is_term (record_at table m)) m (nearest_term table m)
  unfolding nearest_term
  near = e ∙ ap (nearest_term table) s

  -- The record below is a term: it is the nearest.
  pub nearest-stop : is_term (record_at table m) ≡ true → m ≡ nearest_term table k
  nearest-stop h = sym (near ∙ ap (λ (b : Bool). cond b m (nearest_term table m)) h)

  -- It is not, and the search goes on from there.
  pub nearest-skip : is_term (record_at table m) ≡ false → nearest_term table k ≡ nearest_term table m
  nearest-skip h = near ∙ ap (λ (b : Bool). cond b m (nearest_term table m)) h
