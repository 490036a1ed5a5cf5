use Rattle.std.proofs.Common.{ℕ, ◌+◌, ◌*◌, ◌<◌, ⊎_elim, arith, rules}
use native.Mathlib.Nat.{mul-le-mul_right, suc-mul}
use Rattle.laws.specs.Codes.{joined_code}
use Rattle.lanes.specs.Compound.{joined_lane, turned_lane}
use Rattle.lanes.proofs.Stretch.{wrote-cut}
use Rattle.lanes.proofs.vetted.compound.compound_lanes.Goals as goal

-- The codes of a record below k stand below k's.
part_in : (count j : ℕ) {p k : ℕ} → p < k → j < count → p * count + j < k * count
part_in count j {p} l below = omega (arith, mul-le-mul_right count l, suc-mul p count)

pub returns-in-Pareto : goal.returns-in-Pareto
unfolding joined_lane joined_code
returns-in-Pareto c =
    let v = c.split_at_mut-parts.ensures in
    let parts = rw c.in-Joined.is at c.requires.parts in
    rw c.in-Joined.is
    (wrote-cut _ _ _ _ _ _ _ _ (omega arith) v.front v.back c.put.auto.out (λ j below l.
    let h = c.put.ensures j 0 l in
    let x = v.by_index.0 _ 0 (part_in c.args.count j parts.0 below) in
    let y = v.by_index.0 _ 0 (part_in c.args.count j parts.1 below) in
    ⊎_elim (λ e. rw e (search (rules, x, y))) (λ e. rw e (search (rules, x, y))) c.in-Pareto.is))

pub returns-in-Prior : goal.returns-in-Prior
unfolding joined_lane joined_code
returns-in-Prior c =
    let v = c.split_at_mut-parts.ensures in
    let parts = rw c.in-Joined.is at c.requires.parts in
    rw (c.in-Joined.is, c.in-Prior.is)
    (wrote-cut _ _ _ _ _ _ _ _ (omega arith) v.front v.back c.put-in-Prior.auto.out (λ j below l.
    let h = c.put-in-Prior.ensures j 0 l in
    let x = v.by_index.0 _ 0 (part_in c.args.count j parts.0 below) in
    let y = v.by_index.0 _ 0 (part_in c.args.count j parts.1 below) in
    search (rules, x, y)))

pub returns-in-Dual : goal.returns-in-Dual
unfolding turned_lane
returns-in-Dual c =
    let v = c.split_at_mut-parts.ensures in
    let parts = rw c.in-Dual.is at c.requires.parts in
    rw c.in-Dual.is
    (wrote-cut _ _ _ _ _ _ _ _ (omega arith) v.front v.back c.put-in-Dual.auto.out (λ j below l.
    let h = c.put-in-Dual.ensures j 0 l in
    let x = v.by_index.0 _ 0 (part_in c.args.count j parts below) in
    search (rules, x)))
