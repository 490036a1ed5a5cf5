-- `table::runs::closes_cycle` meets its contract.
use mathlib.Core.Path.{sym, ◌∙◌}
use mathlib.Core.Bool.{or-false}
use Prim.Native.Nat.{◌+◌, ◌*◌}
use native.Mathlib.Omega.{arith}
use Rattle.model.specs.Bytes.{byte_at}
use Rattle.model.specs.Record.{u_at, v_at}
use Rattle.model.specs.Check.{closes_cycle}
use Rattle.laws.specs.Records.{Bytes, word_small}
use Rattle.laws.specs.Runs.{values_between}
use Rattle.records.specs.Fields.{u_word, v_word, value_at}
use Rattle.records.proofs.Signed.{eq-signed}
use Rattle.table.proofs.Paths.{no-path}
use Rattle.table.proofs.runs.closes_cycle.Goals as goal

pub returns : goal.returns
unfolding closes_cycle u_at v_at byte_at
returns c =
    let a = c.args in
    let t = a.table.now in
    let bytes : Bytes t = λ i. omega (arith, c.type_inv.table i) in
    let none = no-path (values_between t a.j a.k) (value_at t a.k) (sym c.goes_on_and_back.ensures ∙ c.if-goes_on_and_back.false) in
    rw (
      c.u_word.ensures,
      c.v_word.ensures,
      ← (eq-signed (u_word t a.k) (v_word t a.k) (word_small t bytes (12 * a.k + 4)) (word_small t bytes (12 * a.k + 8))),
      none,
    ) (sym (or-false _))
