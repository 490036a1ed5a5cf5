-- That rows can be compared has at most one proof, as a ghost field asks: of its facts, two go by cases, and one names a
-- number. Assumes nothing.
use Rattle.std.specs.Prelude.{◌≡◌, Bool, true, false, List, ℕ, zero, suc, ◌+◌, ◌*◌, ℤ, pos, negsuc, get_or}
use Rattle.std.proofs.Props.{props}
use Rattle.std.specs.Coded.{×_prop}
use mathlib.Core.Path.{refl, sym, ◌∙◌, ap}
use mathlib.Core.Bool.{Bool-set}
use mathlib.Core.HLevel.{Σ_prop_path, collapsible→set}
use lib.IntN.{ℤ_set}
use Rattle.model.specs.declared.{BaseTerm.BaseTerm, CompoundTerm.CompoundTerm}
use Rattle.model.specs.declared.BaseTerm.TheVariants.{Lowest, Highest, Around, Between, Pos, Neg, PosNeg, PosPos}
use Rattle.model.specs.declared.BaseTerm.TheVariants.{Explicit, Any}
use Rattle.model.specs.declared.CompoundTerm.TheVariants.{Joined, Dual}
use Rattle.terms.specs.Prepared.{EndPlace}
use Rattle.plan.specs.declared.vetted.ops.{Op.Op, Step.Step}
use Rattle.plan.specs.Beneath.{OfParts}
use Rattle.ranks.specs.Rank.{RankAt, PlaceOf}

pub parts-prop : (marks : List Bool) (c : CompoundTerm) → IsProp (OfParts (λ p. get_or marks p false ≡ true) c)
parts-prop marks (Joined op p q) = ×_prop (Bool-set _ _) (Bool-set _ _)
parts-prop marks (Dual p) = Bool-set _ _

-- A place with what is said of it.
abbrev Placed : List ℕ → ℕ → ℕ → ℤ → ℤ → Type 0
Placed table k e x r = (place : ℕ) × ((r ≡ pos place) × EndPlace table k e x (2 * k + 2 + place))

place-of : {table : List ℕ} {k e : ℕ} {x r : ℤ} → Placed table k e x r → PlaceOf table k e x r
place-of s = record { place = s.0; is = s.1.0; ends = s.1.1 }

number : ℤ → ℕ
number (pos a) = a
number (negsuc a) = 0

pub place-prop : (table : List ℕ) (k e : ℕ) (x r : ℤ) → IsProp (PlaceOf table k e x r)
unfolding number place-of
place-prop table k e x r p q =
    let same : p.place ≡ q.place = ap number (sym p.is ∙ q.is) in
    let placed : ◌≡◌ {A = Placed table k e x r} (p.place, (p.is, p.ends)) (q.place, (q.is, q.ends)) =
    Σ_prop_path {A = ℕ} {B = λ n. (r ≡ pos n) × EndPlace table k e x (2 * k + 2 + n)} (λ n. ×_prop (ℤ_set r (pos n)) (hlevel props))
    same in
    ap place-of placed

pub rank-prop : (table : List ℕ) (k e : ℕ) (b : BaseTerm) (x r : ℤ) → IsProp (RankAt table k e b x r)
rank-prop table k e Lowest x r = ℤ_set _ _
rank-prop table k e Highest x r = ℤ_set _ _
rank-prop table k e (Around wish) x r = ℤ_set _ _
rank-prop table k e (Between low up) x r = ℤ_set _ _
rank-prop table k e Pos x r = ℤ_set _ _
rank-prop table k e Neg x r = ℤ_set _ _
rank-prop table k e PosNeg x r = ℤ_set _ _
rank-prop table k e PosPos x r = ℤ_set _ _
rank-prop table k e Explicit x r = place-prop table k e x r
rank-prop table k e Any x r = ℤ_set _ _

-- A step is told from others by three numbers.
op-number : Op → ℕ
op-number Op.ByRank = 0
op-number Op.Places = 1
op-number Op.Join = 2
op-number Op.Prior = 3
op-number Op.Dual = 4

op-of : ℕ → Op
op-of zero = Op.ByRank
op-of (suc zero) = Op.Places
op-of (suc (suc zero)) = Op.Join
op-of (suc (suc (suc zero))) = Op.Prior
op-of (suc (suc (suc (suc a)))) = Op.Dual

op-back : (op : Op) → op-of (op-number op) ≡ op
unfolding op-of op-number
op-back Op.ByRank = refl
op-back Op.Places = refl
op-back Op.Join = refl
op-back Op.Prior = refl
op-back Op.Dual = refl

numbers-of : Step → ℕ × (ℕ × ℕ)
numbers-of s = (op-number s.op, (s.left, s.right))

step-from : ℕ × (ℕ × ℕ) → Step
step-from t = record { op = op-of t.0; left = t.1.0; right = t.1.1 }

step-back : (s : Step) → step-from (numbers-of s) ≡ s
unfolding step-from numbers-of
step-back s = ap (λ (op : Op). record { op = op; left = s.left; right = s.right }) (op-back s.op)

numbers-set : IsSet (ℕ × (ℕ × ℕ))
numbers-set = hlevel props

pub step-set : IsSet Step
step-set = collapsible→set (λ x y p. sym (step-back x) ∙ ap step-from (ap numbers-of p) ∙ step-back y)
    (λ x y p q. ap (λ z. sym (step-back x) ∙ ap step-from z ∙ step-back y) (numbers-set (numbers-of x) (numbers-of y) (ap numbers-of p) (ap numbers-of q)))

pub ruleset comparable_props = (parts-prop, rank-prop, step-set, props)
