use mathlib.Core.Path.{◌≡◌, refl, ◌∙◌}
use Prim.Native.Nat.{◌+◌, ◌*◌, ◌-◌, ◌<◌}
use native.Mathlib.Omega.{arith}
use lib.IntN.{pos}
use lib.ListN.{get_or}
use mir.Syntax.{w32}
use mir.Facts.{to_z-of_z}
use borrow.Author.Rules.{rules, sfits_of}
use Rattle.ranks.specs.Put.{edge_place}
use Rattle.ranks.proofs.Named.{kept-all, filled, then_put, place-none, place-more}
use Rattle.ranks.proofs.Ranks.{small}
use Rattle.ranks.proofs.values.places.Goals as goal

pub loop-p-init : goal.loop-p-init
loop-p-init c =
    let run = c.args.run.now in
    kept-all _ (λ x r. place-none run.of.table.now (2 * run.k + 2) x r)

pub loop-p-preserved : goal.loop-p-preserved
loop-p-preserved c =
    let run = c.args.run.now in
    let p = c.loop-p.p in
    let first = 2 * run.k + 2 in
    let read = to_z-of_z {w = w32} {z = get_or run.of.numbers.now (first + p) (pos 0)} (sfits_of c.put_equal-arg-1.given) in
    let low : first + p < 256 = omega (arith, run.values.last, c.loop-p-test.true) in
    then_put c.loop-p.invariant c.put_equal.ensures
    (λ x r. rw (small p p (omega arith) refl) (place-more run.of.table.now first p (read ∙ run.of.numbered.each (first + p) low) x r))

pub returns : goal.returns
unfolding edge_place
returns c =
    let run = c.args.run.now in
    let n = 2 * run.e - (2 * run.k + 2) in
    let all : c.loop-p.p ≡ n = omega (arith, c.loop-p.auto.p-end, c.loop-p-test.false) in
    then_put (filled (c.fill.ensures.after (λ y is. search rules))) c.loop-p.invariant
    (λ x r. rw (all, small n n (omega (arith, run.values.last)) refl) refl)
