use Rattle.std.proofs.Common.{rules}
use Rattle.lanes.specs.Lit.{lit, hit}
use Rattle.lanes.proofs.LitStored.{some-is}
use Rattle.lanes.proofs.vetted.lit.any_hit.Goals as goal

pub returns : goal.returns
unfolding hit lit
returns c = some-is _ _ (λ e. let w = c.some.ensures.found e in (w.0, w.1, let h = w.2 in search rules)) (λ e j l. let h = c.some.ensures.none e j l in search rules)
