-- `compare::vetted::base_terms::base_code` meets its contract: one arm for each base term.
use Rattle.std.proofs.Common.{◌≡◌, ◌∙◌, refl, ℤ, pos, List, false, to_z-of_z}
use borrow.Author.Rules.{sfits_of}
use Rattle.model.specs.declared.{BaseTerm.BaseTerm, Value.Value}
use Rattle.model.specs.declared.BaseTerm.TheVariants.{Lowest, Highest, Around, Between, Pos, Neg, PosNeg, PosPos, Explicit, Any}
use Rattle.model.specs.Bytes.{eq_z}
use Rattle.model.specs.Better.{better_value, distance, distance_between}
use Rattle.laws.specs.Sound.{sound_base}
use Rattle.laws.specs.Runs.{values_between}
use Rattle.laws.specs.Ranks.{rank_pos, rank_neg, rank_pos_neg, rank_pos_pos, pos-rank, neg-rank, pos-neg-class, pos-pos-class}
use Rattle.records.proofs.Signed.{returned}
use Rattle.laws.specs.ValueCodes.{tests_code, apart_code, value_code}
use Rattle.terms.specs.Coded.{same_bits, other-bits, same_code, other-code}
use Rattle.compare.proofs.Coded.{order-signed, by_rank}
use Rattle.compare.proofs.vetted.base_terms.base_code.Goals as goal

-- Two values that differ have the code that their arm's term gives.
arm : (b : BaseTerm) {d : BaseTerm} (values : List Value) (x y : ℤ) → d ≡ b → eq_z x y ≡ false
    → apart_code b values x y ≡ value_code d values x y
arm b values x y is apart = rw is (other-code b values x y apart)

pub returns-then-x-y : goal.returns-then-x-y
returns-then-x-y c =
    let a = c.args in
    let r = a.run.now in
    same_code a.b (values_between r.of.table.now r.k r.e) a.x a.y (same_bits c.ranges.x c.ranges.y c.if-x-y.true)

pub explicit_code-requires : goal.explicit_code-requires
explicit_code-requires c = c.requires.reached c.in-Explicit.is

pub returns-in-Lowest : goal.returns-in-Lowest
unfolding apart_code better_value
returns-in-Lowest c =
    let f = c.ranges in
    c.by_rank.ensures
    ∙ rw (to_z-of_z f.x, to_z-of_z f.y) (order-signed c.args.x c.args.y)
    ∙ arm Lowest _ _ _ c.in-Lowest.is (other-bits f.x f.y c.if-x-y.false)

pub returns-in-Highest : goal.returns-in-Highest
unfolding apart_code better_value
returns-in-Highest c =
    let f = c.ranges in
    c.by_rank-in-Highest.ensures
    ∙ rw (to_z-of_z f.x, to_z-of_z f.y) (order-signed c.args.y c.args.x)
    ∙ arm Highest _ _ _ c.in-Highest.is (other-bits f.x f.y c.if-x-y.false)

pub returns-in-Around : goal.returns-in-Around
unfolding apart_code better_value
returns-in-Around c =
    let f = c.ranges in
    let a = c.args in
    let wish = c.in-Around.wish in
    c.by_rank-in-Around.ensures
    ∙ rw (
      to_z-of_z (sfits_of c.distance.type_inv),
      to_z-of_z (sfits_of c.distance-in-Around.type_inv),
      c.distance.ensures,
      c.distance-in-Around.ensures,
      to_z-of_z f.x,
      to_z-of_z f.y,
      returned wish c.in-Around.known_told-1-own.given.0.1 refl,
    )
    (order-signed (pos (distance wish a.x)) (pos (distance wish a.y)) ∙ arm (Around wish) _ _ _ c.in-Around.is (other-bits f.x f.y c.if-x-y.false))

pub returns-in-Between : goal.returns-in-Between
unfolding apart_code better_value
returns-in-Between c =
    let f = c.ranges in
    let a = c.args in
    let low = c.in-Between.low in
    let up = c.in-Between.up in
    let t = c.in-Between.known_told-in-Between-1-own.given in
    c.by_rank-in-Between.ensures
    ∙ rw (
      to_z-of_z (sfits_of c.distance_between.type_inv),
      to_z-of_z (sfits_of c.distance_between-in-Between.type_inv),
      c.distance_between.ensures,
      c.distance_between-in-Between.ensures,
      to_z-of_z f.x,
      to_z-of_z f.y,
      returned low t.0.1 refl,
      returned up t.1.0.1 refl,
    )
    (order-signed (pos (distance_between low up a.x)) (pos (distance_between low up a.y)) ∙ arm (Between low up) _ _ _ c.in-Between.is (other-bits f.x f.y c.if-x-y.false))

pub returns-in-Pos : goal.returns-in-Pos
returns-in-Pos c =
    let f = c.ranges in
    let a = c.args in
    let r = a.run.now in
    let v = values_between r.of.table.now r.k r.e in
    c.by_rank-in-Pos.ensures
    ∙ rw (c.class_pos.ensures, c.class_pos-in-Pos.ensures, to_z-of_z f.x, to_z-of_z f.y) (by_rank Pos v (rank_pos v) (pos-rank v) a.x a.y)
    ∙ arm Pos v a.x a.y c.in-Pos.is (other-bits f.x f.y c.if-x-y.false)

pub returns-in-Neg : goal.returns-in-Neg
returns-in-Neg c =
    let f = c.ranges in
    let a = c.args in
    let r = a.run.now in
    let v = values_between r.of.table.now r.k r.e in
    c.by_rank-in-Neg.ensures
    ∙ rw (c.class_neg.ensures, c.class_neg-in-Neg.ensures, to_z-of_z f.x, to_z-of_z f.y) (by_rank Neg v (rank_neg v) (neg-rank v) a.x a.y)
    ∙ arm Neg v a.x a.y c.in-Neg.is (other-bits f.x f.y c.if-x-y.false)

pub returns-in-PosNeg : goal.returns-in-PosNeg
unfolding sound_base
returns-in-PosNeg c =
    let f = c.ranges in
    let a = c.args in
    let r = a.run.now in
    let v = values_between r.of.table.now r.k r.e in
    c.by_rank-in-PosNeg.ensures
    ∙ rw (c.class_pos_neg.ensures, c.class_pos_neg-in-PosNeg.ensures, to_z-of_z f.x, to_z-of_z f.y) (by_rank PosNeg v (rank_pos_neg v) (pos-neg-class v (rw c.in-PosNeg.is at c.requires.is_sound)) a.x a.y)
    ∙ arm PosNeg v a.x a.y c.in-PosNeg.is (other-bits f.x f.y c.if-x-y.false)

pub returns-in-PosPos : goal.returns-in-PosPos
unfolding sound_base
returns-in-PosPos c =
    let f = c.ranges in
    let a = c.args in
    let r = a.run.now in
    let v = values_between r.of.table.now r.k r.e in
    c.by_rank-in-PosPos.ensures
    ∙ rw (c.class_pos_pos.ensures, c.class_pos_pos-in-PosPos.ensures, to_z-of_z f.x, to_z-of_z f.y) (by_rank PosPos v (rank_pos_pos v) (pos-pos-class v (rw c.in-PosPos.is at c.requires.is_sound)) a.x a.y)
    ∙ arm PosPos v a.x a.y c.in-PosPos.is (other-bits f.x f.y c.if-x-y.false)

pub returns-in-Explicit : goal.returns-in-Explicit
returns-in-Explicit c =
    let f = c.ranges in
    c.explicit_code.ensures ∙ rw (to_z-of_z f.x, to_z-of_z f.y) (arm Explicit _ _ _ c.in-Explicit.is (other-bits f.x f.y c.if-x-y.false))

pub returns-in-Any : goal.returns-in-Any
unfolding apart_code better_value tests_code
returns-in-Any c =
    arm Any _ _ _ c.in-Any.is (other-bits c.ranges.x c.ranges.y c.if-x-y.false)
