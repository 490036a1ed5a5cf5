-- `compare::vetted::base_terms::explicit_code` meets its contract.
use mir.Facts.{to_z-of_z}
use Rattle.laws.specs.ValueCodes.{apart_code}
use Rattle.terms.specs.Leads.{leads-is}
use Rattle.compare.proofs.vetted.base_terms.explicit_code.Goals as goal

pub returns : goal.returns
unfolding apart_code
returns c =
    let a = c.args in
    let r = a.run.now in
    let f = c.ranges in
    let px = rw (to_z-of_z f.x) at c.end_place-p.ensures in
    let py = rw (to_z-of_z f.y) at c.end_place-q.ensures in
    let from = c.requires in
    rw (
      c.apart_code.ensures,
      c.leads.ensures,
      c.leads-2.ensures,
      leads-is r.of.table.now r.k r.e a.reach.now from a.x a.y _ _ px py,
      leads-is r.of.table.now r.k r.e a.reach.now from a.y a.x _ _ py px,
    )
