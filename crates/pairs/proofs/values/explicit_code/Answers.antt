-- `pairs::values::explicit_code` meets its contract.
use mathlib.Core.Path.{refl, ◌∙◌}
use mir.Facts.{to_z-of_z}
use Rattle.laws.specs.ValueCodes.{apart_code}
use Rattle.terms.specs.Leads.{leads-is}
use Rattle.pairs.proofs.values.explicit_code.Goals as goal

pub returns : goal.returns
unfolding apart_code
returns c =
    let a = c.args in
    let from = c.requires.reached refl in
    let p = c.requires.first.ends in
    let q = c.requires.second.ends in
    rw (
      c.apart_code.ensures,
      c.leads.ensures,
      c.leads-2.ensures,
      (to_z-of_z c.ranges.x ∙ c.requires.first.is),
      (to_z-of_z c.ranges.y ∙ c.requires.second.is),
      leads-is a.table.now a.k a.e a.reach.now from a.v a.w _ _ p q,
      leads-is a.table.now a.k a.e a.reach.now from a.w a.v _ _ q p,
    )
