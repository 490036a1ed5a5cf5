-- `table::rules::fails_stray` meets its contract.
use mathlib.Core.Path.{◌≡◌, ◌∙◌, ap}
use mathlib.Core.Bool.{true, false, not}
use lib.Dec.{eqb}
use borrow.Author.Tests.{ne_eqb, eq-eqb}
use Rattle.model.specs.declared.Value.{Value}
use Rattle.model.specs.Search.{any_in}
use Rattle.model.specs.Record.{kind_at, p_at, q_at, u_at, v_at, record_at, roles_of, nearest_term}
use Rattle.model.specs.Check.{fails_stray, owner_at}
use Rattle.records.proofs.ByKind.{any_value}
use Rattle.table.proofs.Shapes.{roles-shape}
use Rattle.table.proofs.rules.fails_stray.Goals as goal

pub returns-then-kind_at : goal.returns-then-kind_at
unfolding fails_stray
returns-then-kind_at c =
    let a = c.args in
    let off : eqb (kind_at a.table.now a.k) 0 ≡ false = rw (← c.kind_at.ensures) (ne_eqb _ _ c.if-kind_at.true) in
    rw off at (any_value a.table.now a.k (λ (x : Value). not (any_in (roles_of (owner_at a.table.now a.k)) (eqb x.role))))

pub returns : goal.returns
unfolding fails_stray owner_at record_at
returns c =
    let t = c.args.table.now in
    let near = nearest_term t c.args.k in
    let on : eqb (kind_at t c.args.k) 0 ≡ true = rw (← c.kind_at.ensures) (eq-eqb _ _ c.if-kind_at.false) in
    let roles : roles_of c.record_of.result ≡ roles_of (record_at t near) =
    ap roles_of c.record_of.ensures
    ∙ rw (c.kind_at-2.ensures, c.requires) (roles-shape (kind_at t near) (p_at t near) (q_at t near) (u_at t near) (v_at t near)) in
    rw (c.takes_role.ensures, c.p_at.ensures, roles)
    (rw on at (any_value t c.args.k (λ (x : Value). not (any_in (roles_of (record_at t near)) (eqb x.role)))))
