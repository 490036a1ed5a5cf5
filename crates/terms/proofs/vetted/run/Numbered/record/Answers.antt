-- `terms::vetted::run::Numbered::record` meets its contract.
use mathlib.Core.Path.{◌∙◌}
use Prim.Native.Nat.{◌+◌, ◌*◌}
use native.Mathlib.Omega.{arith}
use lib.IntN.{pos}
use lib.ListN.{get_or}
use mir.Syntax.{w32}
use mir.Facts.{to_z-of_z}
use borrow.Author.Rules.{sfits_of}
use Rattle.model.specs.Record.{record_at}
use Rattle.terms.proofs.Ends.{number-u, number-v}
use Rattle.terms.proofs.vetted.run.Numbered.record.Goals as goal

pub returns : goal.returns
unfolding record_at
returns c =
    let a = c.args in
    let n = a.self.now.numbered in
    let u = to_z-of_z {w = w32} {z = get_or a.self.now.numbers.now (2 * a.k) (pos 0)} (sfits_of c.record_of-arg-1.given) ∙ n.each (2 * a.k) (omega (arith, c.requires)) ∙ number-u a.self.now.table.now a.k in
    let v = to_z-of_z {w = w32} {z = get_or a.self.now.numbers.now (2 * a.k + 1) (pos 0)} (sfits_of c.record_of-arg-2-1.given) ∙ n.each (2 * a.k + 1) (omega (arith, c.requires)) ∙ number-v a.self.now.table.now a.k in
    c.record_of.ensures ∙ rw (c.kind_at.ensures, c.p_at.ensures, c.q_at.ensures, u, v)
