-- What is prepared of a query is a proposition, so that a struct can hold it. Assumes nothing.
use Rattle.std.specs.Prelude.{◌≡◌, List, ℕ, ◌+◌, ◌*◌, ℤ, pos}
use Rattle.std.proofs.Common.{sym, ◌∙◌, arith}
use Rattle.std.proofs.Props.{props}
use mathlib.Core.HLevel.{×_prop}
use Rattle.model.specs.declared.{CompoundTerm.CompoundTerm, BaseTerm.BaseTerm}
use Rattle.model.specs.declared.CompoundTerm.TheVariants.{Joined, Dual}
use Rattle.model.specs.declared.BaseTerm.TheVariants.{Lowest, Highest, Around, Between, Pos, Neg, PosNeg, PosPos}
use Rattle.model.specs.declared.BaseTerm.TheVariants.{Explicit, Any}
use Rattle.terms.specs.Prepared.{EndPlace}
use Rattle.plan.specs.Beneath.{OfParts}
use Rattle.ranks.specs.Rank.{PlaceOf, RankAt}

-- So is what holds of each part of a compound,
pub OfParts-prop : (P : ℕ → Type 0) → ((p : ℕ) → IsProp (P p)) → (c : CompoundTerm) → IsProp (OfParts P c)
OfParts-prop P each (Joined op p q) = ×_prop (each p) (each q)
OfParts-prop P each (Dual p) = each p

-- and the rank of a value: a place among the ends of edges is one number.
pub PlaceOf-prop : (table : List ℕ) (k e : ℕ) (x r : ℤ) → IsProp (PlaceOf table k e x r)
PlaceOf-prop table k e x r a b =
    let is_prop : (p : ℕ) → IsProp (r ≡ pos p) = hlevel props in
    let ends_prop : (p : ℕ) → IsProp (EndPlace table k e x p) = hlevel props in
    let go : (p q : ℕ) → p ≡ q → (i : r ≡ pos p) (j : r ≡ pos q) (s : EndPlace table k e x (2 * k + 2 + p))
    (t : EndPlace table k e x (2 * k + 2 + q))
    → ◌≡◌ {A = PlaceOf table k e x r} (record { place = p; is = i; ends = s }) (record { place = q; is = j; ends = t })
    = λ p q l. rw (sym l) (λ i j s t. λ m. record { place = p; is = is_prop p i j m; ends = ends_prop _ s t m }) in
    let e : pos a.place ≡ pos b.place = sym a.is ∙ b.is in
    let same : a.place ≡ b.place = grind arith in
    go a.place b.place same a.is b.is a.ends b.ends

pub RankAt-prop : (table : List ℕ) (k e : ℕ) (t : BaseTerm) (x r : ℤ) → IsProp (RankAt table k e t x r)
RankAt-prop table k e Lowest x r = hlevel props
RankAt-prop table k e Highest x r = hlevel props
RankAt-prop table k e (Around wish) x r = hlevel props
RankAt-prop table k e (Between low up) x r = hlevel props
RankAt-prop table k e Pos x r = hlevel props
RankAt-prop table k e Neg x r = hlevel props
RankAt-prop table k e PosNeg x r = hlevel props
RankAt-prop table k e PosPos x r = hlevel props
RankAt-prop table k e Explicit x r = PlaceOf-prop table k e x r
RankAt-prop table k e Any x r = hlevel props

-- By these a fact of what is prepared is a proposition.
pub ruleset prepared = (props, OfParts-prop, RankAt-prop)
