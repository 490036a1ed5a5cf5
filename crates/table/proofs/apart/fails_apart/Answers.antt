-- `table::apart::fails_apart` meets its contract.
use mathlib.Core.Path.{◌≡◌, ◌∙◌, sym}
use native.Mathlib.Omega.{arith}
use borrow.Author.Tests.{ne_eqb}
use Rattle.model.specs.Record.{kind_at, p_at, q_at}
use Rattle.table.proofs.ApartLaws.{narrow, both_below, apart-is, apart_none}
use Rattle.table.proofs.apart.fails_apart.Goals as goal

pub returns-then-kind_at : goal.returns-then-kind_at
returns-then-kind_at c =
    let a = c.args in
    sym (apart_none a.table.now a.k (rw (← c.kind_at.ensures) (ne_eqb _ _ c.if-kind_at.true)))

pub masks-a-requires : goal.masks-a-requires
masks-a-requires c =
    narrow c.args.table.now c.args.columns c.args.k c.requires

pub returns : goal.returns
returns c =
    let t = c.args.table.now in
    let e : kind_at t c.args.k ≡ 18 = sym c.kind_at.ensures ∙ c.if-kind_at.false in
    let h = both_below t c.args.columns c.args.k c.requires e in
    rw (
      c.p_at-p.ensures,
      c.q_at-q.ensures,
      c.masks-a.ensures (p_at t c.args.k) (omega (arith, h.0, c.requires.reached.few)),
      c.masks-a.ensures (q_at t c.args.k) (omega (arith, h.1, c.requires.reached.few)),
    ) (apart-is t c.args.columns c.args.k c.requires e)
