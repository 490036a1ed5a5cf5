-- `selection::vetted::rooms::in_ranks` meets its contract.
use Rattle.std.proofs.Common.{sym, ◌∙◌}
use Rattle.terms.specs.Edges.{no_edges}
use Rattle.selection.proofs.vetted.rooms.in_ranks.Goals as goal

-- Without edges nothing is reached.
pub select-requires-clause-reach : goal.select-requires-clause-reach
select-requires-clause-reach g c = no_edges _ _ _ (sym c.has_explicit.ensures ∙ c.if-has_explicit.false)
