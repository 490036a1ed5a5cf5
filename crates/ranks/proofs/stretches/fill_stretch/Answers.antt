use mathlib.Core.Path.{refl}
use lib.IntN.{pos}
use lib.ListN.{get_or-replicate}
use borrow.Author.Rules.{rules}
use Rattle.laws.specs.Runs.{values_between}
use Rattle.ranks.specs.Rank.{rank_of}
use Rattle.ranks.proofs.ClassesLaws.{pos-is, neg_is, pos-neg-is, pos-pos-is, place_is}
use Rattle.ranks.proofs.Named.{put-made}
use Rattle.ranks.proofs.stretches.fill_stretch.Goals as goal

pub returns-in-Lowest : goal.returns-in-Lowest
unfolding rank_of
returns-in-Lowest c =
    rw c.in-Lowest.is (record { each = λ j l. let w = c.fill.ensures.each j l in search rules })

pub returns-in-Highest : goal.returns-in-Highest
unfolding rank_of
returns-in-Highest c =
    rw c.in-Highest.is (record { each = λ j l. let w = c.fill-in-Highest.ensures.each j l in search rules })

pub returns-in-Around : goal.returns-in-Around
unfolding rank_of
returns-in-Around c =
    rw c.in-Around.is (record { each = λ j l. let w = c.fill-in-Around.ensures.each j l in search rules })

pub returns-in-Between : goal.returns-in-Between
unfolding rank_of
returns-in-Between c =
    rw c.in-Between.is (record { each = λ j l. let w = c.fill-in-Between.ensures.each j l in search rules })

pub returns-in-Pos : goal.returns-in-Pos
returns-in-Pos c =
    let run = c.args.run.now in
    rw c.in-Pos.is
    (put-made c.one_role.ensures c.requires.few c.requires.within c.cells.ensures
    (λ x r. pos-is (values_between run.of.table.now run.k run.e) x))

pub returns-in-Neg : goal.returns-in-Neg
returns-in-Neg c =
    let run = c.args.run.now in
    rw c.in-Neg.is
    (put-made c.one_role-in-Neg.ensures c.requires.few c.requires.within c.cells-in-Neg.ensures
    (λ x r. neg_is (values_between run.of.table.now run.k run.e) x))

pub returns-in-PosNeg : goal.returns-in-PosNeg
returns-in-PosNeg c =
    let run = c.args.run.now in
    rw c.in-PosNeg.is
    (put-made c.two_roles.ensures c.requires.few c.requires.within c.cells-in-PosNeg.ensures
    (λ x r. pos-neg-is (values_between run.of.table.now run.k run.e) x))

pub returns-in-PosPos : goal.returns-in-PosPos
returns-in-PosPos c =
    let run = c.args.run.now in
    rw c.in-PosPos.is
    (put-made c.two_roles-in-PosPos.ensures c.requires.few c.requires.within c.cells-in-PosPos.ensures
    (λ x r. pos-pos-is (values_between run.of.table.now run.k run.e) x))

pub returns-in-Explicit : goal.returns-in-Explicit
returns-in-Explicit c =
    let run = c.args.run.now in
    rw c.in-Explicit.is
    (put-made c.places.ensures c.requires.few c.requires.within c.cells-in-Explicit.ensures
    (λ x r. place_is run.of.table.now run.k run.e run.values x))

pub returns-in-Any : goal.returns-in-Any
unfolding rank_of
returns-in-Any c =
    rw c.in-Any.is
    (record { each = λ j l. rw (c.fill-in-Any.ensures.after (λ y is. search rules), get_or-replicate _ j (pos 0) (pos 0) (rw c.fill-in-Any.ensures.len at l)) refl })
