-- `pairs::pair::Pair::values_code` meets its contract.
use mathlib.Core.Path.{sym, ◌∙◌}
use lib.IntN.{pos}
use lib.ListN.{get_or}
use mir.Syntax.{w32}
use mir.Facts.{to_z-of_z}
use Rattle.model.specs.Better.{cell}
use Rattle.terms.specs.Coded.{same_bits, other-bits}
use Rattle.pairs.proofs.Coded.{based, column-in, two-ranked, same-is, ranked-is, explicit-code-is, not-explicit, is-explicit}
use borrow.Author.Rules.{sfits_of}
use Rattle.pairs.proofs.pair.Pair.values_code.Goals as goal

pub bounds-self-step : goal.bounds-self-step
bounds-self-step c =
    let s = c.args.self.now in
    let p = s.of.now.comparable in
    let r = c.requires.record_of in
    column-in p r (based p r c.requires.step c.requires.base).1 s.first_row

pub bounds-self-step-2 : goal.bounds-self-step-2
bounds-self-step-2 c =
    let s = c.args.self.now in
    let p = s.of.now.comparable in
    let r = c.requires.record_of in
    column-in p r (based p r c.requires.step c.requires.base).1 s.second_row

pub returns-then-v-w : goal.returns-then-v-w
unfolding cell
returns-then-v-w c =
    let s = c.args.self.now in
    let p = s.of.now.comparable in
    let r = c.requires.record_of in
    same-is p r (based p r c.requires.step c.requires.base).1 s.first.now s.second.now
    (same_bits (sfits_of c.v-1.given) (sfits_of c.w-1.given) c.if-v-w.true)

pub explicit_code-requires : goal.explicit_code-requires
unfolding cell
explicit_code-requires c =
    let a = c.args in
    let s = a.self.now in
    let p = s.of.now.comparable in
    let r = c.requires.record_of in
    let b = based p r c.requires.step c.requires.base in
    let x = to_z-of_z {w = w32} {z = c.rank_at-x.result} (sfits_of c.rank_at-x.type_inv) ∙ c.rank_at-x.ensures in
    let y = to_z-of_z {w = w32} {z = c.rank_at-y.result} (sfits_of c.rank_at-y.type_inv) ∙ c.rank_at-y.ensures in
    let v = to_z-of_z {w = w32} {z = get_or s.first.now a.step.left (pos 0)} (sfits_of c.v-1.given) in
    let w = to_z-of_z {w = w32} {z = get_or s.second.now a.step.left (pos 0)} (sfits_of c.w-1.given) in
    let k = is-explicit b.0 (sym b.2 ∙ c.in-Places.is) in
    rw (v, w, x, y) (rw k at (two-ranked p r b.1 s.first_row s.second_row))

pub returns-in-Places : goal.returns-in-Places
unfolding cell
returns-in-Places c =
    let a = c.args in
    let s = a.self.now in
    let p = s.of.now.comparable in
    let r = c.requires.record_of in
    let b = based p r c.requires.step c.requires.base in
    let v = to_z-of_z {w = w32} {z = get_or s.first.now a.step.left (pos 0)} (sfits_of c.v-1.given) in
    let w = to_z-of_z {w = w32} {z = get_or s.second.now a.step.left (pos 0)} (sfits_of c.w-1.given) in
    let apart = other-bits (sfits_of c.v-1.given) (sfits_of c.w-1.given) c.if-v-w.false in
    let k = is-explicit b.0 (sym b.2 ∙ c.in-Places.is) in
    rw (v, w) at c.explicit_code.ensures
    ∙ explicit-code-is p r b.1 s.first.now s.second.now apart k

pub returns-in_default : goal.returns-in_default
unfolding cell
returns-in_default c =
    let s = c.args.self.now in
    let p = s.of.now.comparable in
    let r = c.requires.record_of in
    let b = based p r c.requires.step c.requires.base in
    let x = to_z-of_z {w = w32} {z = c.rank_at-x.result} (sfits_of c.rank_at-x.type_inv) ∙ c.rank_at-x.ensures in
    let y = to_z-of_z {w = w32} {z = c.rank_at-y.result} (sfits_of c.rank_at-y.type_inv) ∙ c.rank_at-y.ensures in
    let apart = other-bits (sfits_of c.v-1.given) (sfits_of c.w-1.given) c.if-v-w.false in
    rw (x, y) at c.by_rank.ensures
    ∙ ranked-is p r b.1 s.first.now s.second.now apart
    (not-explicit b.0 (λ z. c.in_default.not-Places (b.2 ∙ z))) s.first_row s.second_row
