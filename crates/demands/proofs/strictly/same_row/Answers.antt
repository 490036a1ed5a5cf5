-- `demands::strictly::same_row` meets its contract, by that of `compare`.
use Rattle.demands.specs.Given.{gives_same}
use Rattle.demands.proofs.Replies.{same-passes}
use Rattle.demands.proofs.strictly.same_row.Goals as goal

pub returns : goal.returns
unfolding gives_same
returns c =
    let a = c.args in
    let x = a.x.now in (
      cc,
      λ ok low is e. rw (c.number_given.ensures, c.compare.ensures)
          (same-passes a.table.now a.columns a.term
          (record { is_accepted = ok; below = low; is_record = is }) x x x e e e),
    )
