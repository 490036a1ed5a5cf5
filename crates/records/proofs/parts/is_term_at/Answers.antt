-- `records::parts::is_term_at` meets its contract.
use mathlib.Core.Path.{◌∙◌, ap}
use Rattle.model.specs.Record.{record_at, is_term}
use Rattle.records.proofs.OfKind.{term-kind}
use Rattle.records.proofs.parts.is_term_at.Goals as goal

pub returns : goal.returns
unfolding record_at
returns c =
    c.is_term.ensures ∙ ap is_term c.record_of.ensures
    ∙ rw c.kind_at.ensures (term-kind _ _ _ _ _ _ _ _ _)
