-- `records::parts::compound_at` meets its contract.
use mathlib.Core.Path.{◌∙◌, ap}
use Rattle.model.specs.Record.{record_at, parts_of}
use Rattle.records.proofs.OfKind.{parts-numbers}
use Rattle.records.proofs.parts.compound_at.Goals as goal

pub returns : goal.returns
unfolding record_at
returns c =
    c.compound.ensures ∙ ap parts_of c.record_of.ensures
    ∙ rw (c.kind_at.ensures, c.p_at.ensures, c.q_at.ensures) (parts-numbers _ _ _ _ _ _ _)
