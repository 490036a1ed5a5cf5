-- `table::filler::fails_filler` meets its contract.
use mathlib.Core.Path.{◌≡◌, sym, ◌∙◌, ap}
use mathlib.Core.Bool.{true, false, not}
use lib.Dec.{eqb}
use lib.IntN.{pos}
use lib.ListN.{get_or}
use borrow.Author.Rules.{sfits_of}
use Rattle.model.specs.Bytes.{eq_z}
use Rattle.model.specs.Record.{kind_at, p_at, q_at, s_at, u_at, v_at, record_at, record_of}
use Rattle.model.specs.Check.{fails_filler}
use Rattle.records.proofs.Signed.{is_zero}
use Rattle.table.specs.Filler.{has_field, must_be_zero, in_list, zero_row}
use Rattle.table.proofs.FillerRows.{filler-fields, zero-unknown, zero-rows}
use Rattle.table.proofs.filler.fails_filler.Goals as goal

pub returns-then-not-in_list : goal.returns-then-not-in_list
unfolding fails_filler record_at has_field
returns-then-not-in_list c =
    let a = c.args in
    let t = a.table.now in
    let k = a.k in
    let out : in_list (kind_at t k) ≡ false = rw (← c.kind_at-kind.ensures, ← c.in_list.ensures) c.if-not-in_list.true in
    sym (sym (filler-fields (record_at t k) (not (eqb (q_at t k) 0)) (not (eqb (s_at t k) 0)) (not (eq_z (u_at t k) (pos 0))) (not (eq_z (v_at t k) (pos 0))))
    ∙ rw (zero-unknown (kind_at t k) (p_at t k) (q_at t k) (u_at t k) (v_at t k) out))

pub row_of-row-requires : goal.row_of-row-requires
row_of-row-requires c =
    rw (← c.in_list.ensures) c.if-not-in_list.false

pub returns : goal.returns
unfolding fails_filler record_at
returns c =
    let v = c.v_at in
    let u = c.u_at in
    let s = c.s_at in
    let q = c.q_at in
    let a = c.args in
    let t = a.table.now in
    let k = a.k in
    let is : in_list (kind_at t k) ≡ true = rw (← c.kind_at-kind.ensures, ← c.in_list.ensures) c.if-not-in_list.false in
    let zero : get_or a.zero.now c.row_of-row.result 0 ≡ must_be_zero (record_of (kind_at t k) (p_at t k) (q_at t k) (u_at t k) (v_at t k)) =
    c.requires c.row_of-row.result c.row_of-row.ensures.1 ∙ ap zero_row c.row_of-row.ensures.0
    ∙ rw (c.kind_at-kind.ensures, c.p_at.ensures) (zero-rows (kind_at t k) (p_at t k) (q_at t k) (u_at t k) (v_at t k) is) in
    rw (c.has.ensures, c.has-2.ensures, c.has-3.ensures, c.has-4.ensures, zero, is_zero (sfits_of u.type_inv), is_zero (sfits_of v.type_inv), q.ensures, s.ensures, u.ensures, v.ensures)
    (filler-fields (record_at t k) (not (eqb (q_at t k) 0)) (not (eqb (s_at t k) 0)) (not (eq_z (u_at t k) (pos 0))) (not (eq_z (v_at t k) (pos 0))))
