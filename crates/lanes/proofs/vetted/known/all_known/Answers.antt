use Rattle.std.proofs.Common.{rules}
use Rattle.lanes.proofs.vetted.known.all_known.Goals as goal

pub returns : goal.returns
returns c = λ e. record { each = λ j l. let h = c.some.ensures.none (search rules) j l in search rules }
