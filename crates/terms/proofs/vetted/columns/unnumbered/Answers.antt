-- `terms::vetted::columns::unnumbered` meets its contract.
use Rattle.terms.specs.Columns.{unnumbered_at}
use Rattle.terms.proofs.vetted.columns.unnumbered.Goals as goal

pub returns : goal.returns
unfolding unnumbered_at
returns c =
    rw (c.record_of.ensures, c.kind_at.ensures, c.p_at.ensures, c.q_at.ensures)
