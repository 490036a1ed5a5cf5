-- EXPLICIT by the places of two values among the ends of the edges (SPECIFICATION, "When a row is better"). Assumes
-- nothing.
use Rattle.std.specs.Prelude.{◌≡◌, refl, Bool, true, false, cond, not, List, ℕ, ◌+◌, ◌*◌, ◌-◌, ◌<◌, eqb, ℤ}
use Rattle.std.proofs.Common.{sym, ◌∙◌, arith, lt-ltb, le-ltb, eqb-true}
use Rattle.std.proofs.Math.Bool.{false≢true, and-false, or-false}
use Rattle.std.proofs.lemmas.Bool.{eqb-false}
use Rattle.model.specs.declared.Value.{Value}
use Rattle.model.specs.declared.BaseTerm.TheVariants.{Explicit}
use Rattle.model.specs.Better.{reaches, in_edge, better_value}
use Rattle.laws.specs.Bools.{off, or_r}
use Rattle.laws.specs.Runs.{values_between}
use Rattle.laws.specs.Explicit.{reach-ends}
use Rattle.terms.specs.Run.{Values}
use Rattle.terms.specs.Closure.{cell_at}
use Rattle.terms.specs.Prepared.{EndPlace, ReachedFrom}
use Rattle.terms.specs.Places.{Ends, leads_to}

module _ (edges : List Value) (x y : ℤ) where
  -- What is in no edge is not better,
  never : in_edge edges y ≡ false → better_value Explicit edges x y ≡ false
  unfolding better_value
  never h = rw (off (reaches edges x y) (λ r. false≢true (sym h ∙ (reach-ends edges x y r).1)), h) (and-false (not (in_edge edges x)))

  -- what is in some edge is better than what is in none,
  always : in_edge edges x ≡ false → in_edge edges y ≡ true → better_value Explicit edges x y ≡ true
  unfolding better_value
  always h k = rw (h, k) (or_r (reaches edges x y) refl)

  -- and else a path decides.
  by-path : in_edge edges x ≡ true → reaches edges x y ≡ better_value Explicit edges x y
  unfolding better_value
  by-path h = rw h (sym (or-false (reaches edges x y)))

module _ (table : List ℕ) (k e : ℕ) {x : ℤ} {p : ℕ} (place : EndPlace table k e x p) where
  -- The place for none is that of a number in no edge,
  none : eqb p (2 * e) ≡ true → in_edge (values_between table k e) x ≡ false
  none h = place.named ∙ le-ltb p (2 * e) (omega (arith, eqb-true p (2 * e) h))

  below : eqb p (2 * e) ≡ false → p < 2 * e
  below h = omega (arith, place.high, eqb-false p (2 * e) h)

  -- and any other that of a number in some edge.
  some : eqb p (2 * e) ≡ false → in_edge (values_between table k e) x ≡ true
  some h = place.named ∙ lt-ltb p (2 * e) (below h)

-- A place among the ends is one that `leads` takes.
pub ends_of : {table : List ℕ} {k e : ℕ} {x : ℤ} {p : ℕ} → Values table k e → EndPlace table k e x p → Ends k e p
ends_of v place = record { few = v.few; last = v.last; low = place.low; high = place.high }

-- The places of x and y say whether y is better.
pub leads-is : (table : List ℕ) (k e : ℕ) (reach : List (List Bool)) → ReachedFrom table k e reach → (x y : ℤ) (p q : ℕ)
    → EndPlace table k e x p → EndPlace table k e y q
    → leads_to reach k e p q ≡ better_value Explicit (values_between table k e) x y
unfolding leads_to
leads-is table k e reach from x y p q px py =
    go (eqb q (2 * e)) refl (eqb p (2 * e)) refl
  where
    go : (j : Bool) → eqb q (2 * e) ≡ j → (i : Bool) → eqb p (2 * e) ≡ i
        → cond j false (cond i true (cell_at reach p (q - (2 * k + 2)))) ≡ better_value Explicit (values_between table k e) x y
    go true h i g = sym (never (values_between table k e) x y (none table k e py h))
    go false h true g = sym (always (values_between table k e) x y (none table k e px g) (some table k e py h))
    go false h false g =
        rw (
          from.each p q px.low (below table k e px g) py.low (below table k e py h),
          px.found (below table k e px g),
          py.found (below table k e py h),
        )
        (by-path (values_between table k e) x y (some table k e px g))
