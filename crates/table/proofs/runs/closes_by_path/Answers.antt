-- `table::runs::closes_by_path` meets its contract.
use Prim.Native.Nat.{◌+◌, ◌*◌, ◌-◌, ◌<◌}
use native.Mathlib.Omega.{arith}
use Rattle.model.specs.Bytes.{byte_at}
use Rattle.model.specs.Record.{u_at, v_at}
use Rattle.model.specs.Check.{closes_cycle}
use Rattle.laws.specs.Records.{Bytes, word_small}
use Rattle.records.specs.Fields.{u_word, v_word}
use Rattle.records.proofs.Signed.{eq-signed}
use Rattle.terms.specs.Closure.{cell_at}
use Rattle.terms.proofs.Cells.{end-u, end-v}
use Rattle.table.proofs.runs.closes_by_path.Goals as goal

pub returns : goal.returns
unfolding closes_cycle cell_at u_at v_at byte_at
returns c =
    let u = c.u_word in
    let v = c.v_word in
    let a = c.args in
    let t = a.table.now in
    let pre = c.requires in
    let bytes : Bytes t = λ i. omega (arith, c.type_inv.table i) in
    let l : a.j < a.k = pre.0.before in
    let e : 2 * (a.k - a.j - 1) < 32 = omega (arith, pre.1) in
    let f : 2 * (a.k - a.j - 1) + 1 < 32 = omega (arith, pre.1) in
    rw (
      u.ensures,
      v.ensures,
      ← (eq-signed (u_word t a.k) (v_word t a.k) (word_small t bytes (12 * a.k + 4)) (word_small t bytes (12 * a.k + 8))),
      c.closure-g.ensures.each (2 * (a.k - a.j - 1) + 1) (2 * (a.k - a.j - 1)) f e,
      end-u t a.j a.k l,
      end-v t a.j a.k l,
    )
