use Rattle.std.proofs.Common.{◌≡◌, ◌<◌}
use native.Mathlib.Omega.{arith}
use Rattle.model.specs.Bytes.{byte_at}
use Rattle.laws.specs.Records.{Bytes}
use Rattle.terms.proofs.Cells.{closure-none, closure-more}
use Rattle.terms.proofs.vetted.closure.closure.Goals as goal

pub ends-x-requires : goal.ends-x-requires
ends-x-requires c = omega (arith, c.requires.before, c.requires.last)

pub loop-i-init : goal.loop-i-init
loop-i-init c =
    let a = c.args in
    closure-none a.table.now a.j

pub with_edge-g-requires : goal.with_edge-g-requires
with_edge-g-requires c = omega (arith, c.requires.few, c.loop-i.auto.i)

pub loop-i-preserved : goal.loop-i-preserved
unfolding byte_at
loop-i-preserved c =
    let a = c.args in
    let bytes : Bytes a.table.now = λ i. omega (arith, c.type_inv.table i) in
    let more : a.j < c.loop-i.i = omega (arith, c.loop-i.auto.i) in
    closure-more a.table.now c.ends-x.result a.j c.loop-i.i c.loop-i.g c.with_edge-g.result bytes more (omega (arith, c.requires.few))
    (c.requires.each c.loop-i.i more (omega arith)) c.ends-x.ensures c.loop-i.invariant c.with_edge-g.ensures

pub returns : goal.returns
returns c =
    let a = c.args in
    let e : c.loop-i.i ≡ a.k = omega (arith, c.requires.before) in
    rw e at c.loop-i.invariant
