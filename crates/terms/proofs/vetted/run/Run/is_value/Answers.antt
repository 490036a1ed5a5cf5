-- `terms::vetted::run::Run::is_value` meets its contract.
use mathlib.Core.Path.{◌≡◌, ◌∙◌}
use Prim.Native.Nat.{◌*◌}
use native.Mathlib.Omega.{arith}
use lib.IntN.{pos}
use lib.ListN.{get_or}
use Rattle.model.specs.Record.{u_at}
use Rattle.records.proofs.Signed.{eq-bits}
use Rattle.terms.proofs.Ends.{number-u}
use Rattle.terms.proofs.vetted.run.Run.is_value.Goals as goal

pub returns : goal.returns
returns c =
    let t = c.args.self.now.of.table.now in
    let i = c.args.i in
    let u : get_or c.args.self.now.of.numbers.now (2 * i) (pos 0) ≡ u_at t i = c.args.self.now.of.numbered.each (2 * i) (omega (arith, c.requires)) ∙ number-u t i in
    rw (eq-bits c.ranges.x (record { sfits = c.result-1.given }), c.p_at.ensures, u)
