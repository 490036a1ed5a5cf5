-- What the loops over the lanes of a base record write are the codes of the lanes' values. Assumes nothing.
use mathlib.Core.Path.{◌≡◌, refl, ◌∙◌}
use mathlib.Core.Bool.{Bool, true, false, cond}
use mathlib.Core.List.{List}
use Prim.Native.Nat.{ℕ, ◌+◌, ◌*◌, ◌-◌}
use native.Mathlib.Omega.{arith}
use lib.IntN.{ℤ, pos}
use lib.ListN.{get_or}
use borrow.Author.Tests.{lt-ltb}
use Rattle.model.specs.declared.{BaseTerm.BaseTerm}
use Rattle.model.specs.declared.BaseTerm.TheVariants.{Explicit}
use Rattle.model.specs.Bytes.{eq_z}
use Rattle.laws.specs.Runs.{values_between}
use Rattle.laws.specs.ValueCodes.{tests_code, apart_code, value_code}
use Rattle.terms.specs.Run.{Values}
use Rattle.terms.specs.Prepared.{EndPlace, ReachedFrom}
use Rattle.terms.specs.Leads.{leads-is}
use Rattle.ranks.specs.Rank.{rank_of, PlaceOf}
use Rattle.ranks.specs.ByRank.{is_explicit, ranks-code, order-code}
use Rattle.laws.specs.Wrote.{Wrote}
use Rattle.lanes.specs.Lanes.{order_code, order_lane, ranked_lane, place_code, place_lane}
use Rattle.blocks.specs.Base.{BaseAsked, BaseCoded, places_code, Against}

-- Places give the code of two values that are not the same.
pub places-code-is : (table : List ℕ) (k e : ℕ) (reach : List (List Bool)) → ReachedFrom table k e reach → (v w : ℤ) (p q : ℕ)
    → EndPlace table k e v p → EndPlace table k e w q
    → places_code reach k e p q ≡ apart_code Explicit (values_between table k e) v w
unfolding places_code apart_code
places-code-is table k e reach from v w p q at to =
    rw (leads-is table k e reach from v w p q at to, leads-is table k e reach from w v q p to at)

-- Unranked or better where the values differ, and else the same.
apart : (same first second : Bool) → cond same 0 (tests_code false first second) ≡ tests_code same first second
unfolding tests_code
apart true first second = refl
apart false first second = refl

-- EXPLICIT's rank is a place.
pub own_place : {table : List ℕ} {reach : List (List Bool)} {k e : ℕ} {t : BaseTerm} {x v : ℤ} → t ≡ Explicit
    → BaseAsked table reach k e t x v → PlaceOf table k e v x
own_place is asked = rw is at asked.own

module _ {table : List ℕ} {reach : List (List Bool)} {k e : ℕ} {x v : ℤ} {ranks : List ℤ} {at : ℕ} {values : List ℤ}
    {from : ℕ} {old new : List ℕ} where
  -- By rank and value.
  pub ranked-coded : {t : BaseTerm} → is_explicit t ≡ false → BaseAsked table reach k e t x v
      → Wrote 0 (ranked_lane x ranks at v values from) (k * 64) 64 old new
      → BaseCoded table k e t ranks at values from v old new
  unfolding ranked_lane
  ranked-coded {t} h asked w =
      record {
        made = λ j l r.
            let y = get_or values (from + j) (pos 0) in
            w.made j l ∙ ranks-code table k e t h asked.is_sound v y x (get_or ranks (at + j) (pos 0)) asked.own r;
        below = w.below;
      }

  -- By rank alone, where equal ranks are equal values.
  pub order-coded : {t : BaseTerm} → is_explicit t ≡ false
      → ((y z : ℤ) → eq_z (rank_of t (values_between table k e) y) (rank_of t (values_between table k e) z) ≡ eq_z y z)
      → BaseAsked table reach k e t x v → Wrote 0 (order_lane x ranks at) (k * 64) 64 old new
      → BaseCoded table k e t ranks at values from v old new
  unfolding order_lane order_code
  order-coded {t} h same asked w =
      record {
        made = λ j l r.
            let y = get_or values (from + j) (pos 0) in
            w.made j l ∙ order-code table k e t h asked.is_sound same v y x (get_or ranks (at + j) (pos 0)) asked.own r;
        below = w.below;
      }

  -- By place.
  pub place-coded : {to : List ℕ} {t : BaseTerm} → Values table k e → t ≡ Explicit → BaseAsked table reach k e t x v
      → (own : PlaceOf table k e v x) → Against reach k e (2 * k + 2 + own.place) (2 * e + 1) to
      → Wrote 0 (place_lane to ranks at v values from) (k * 64) 64 old new
      → BaseCoded table k e t ranks at values from v old new
  unfolding place_lane place_code apart_code value_code
  place-coded {to} run is asked own against w =
      rw is (record { made = λ j l r. w.made j l ∙ of-place j r; below = w.below })
    where
      p : ℕ
      p = 2 * k + 2 + own.place

      of-place : (j : ℕ) → (r : PlaceOf table k e (get_or values (from + j) (pos 0)) (get_or ranks (at + j) (pos 0)))
          → place_lane to ranks at v values from j
          ≡ value_code Explicit (values_between table k e) v (get_or values (from + j) (pos 0))
      of-place j r =
          let y = get_or values (from + j) (pos 0) in
          let q = 2 * k + 2 + r.place in
          let high = r.ends.high in
          let few = run.few in
          let from = asked.reached is in
          let back : q - (2 * k + 2) ≡ r.place = omega arith in
          let there = rw back at (against.each q (omega arith) (omega (arith, high))) in
          rw (
            r.is,
            lt-ltb r.place 33 (omega (arith, high, few)),
            there,
            places-code-is table k e reach from v y p q own.ends r.ends,
          )
          (apart (eq_z v y) _ _)
