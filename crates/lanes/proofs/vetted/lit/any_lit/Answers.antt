use Rattle.std.proofs.Common.{rules}
use Rattle.lanes.specs.Lit.{lit}
use Rattle.lanes.proofs.LitStored.{some-is}
use Rattle.lanes.proofs.vetted.lit.any_lit.Goals as goal

pub returns : goal.returns
unfolding lit
returns c = some-is _ _ (λ e. let w = c.some.ensures.found e in (w.0, w.1, let h = w.2 in search rules)) (λ e j l. let h = c.some.ensures.none e j l in search rules)
