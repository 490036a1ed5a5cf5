-- `demands::strictly::chained` meets its contract, by that of `compare`.
use Rattle.demands.specs.Given.{gives_chained}
use Rattle.demands.proofs.Replies.{chained-passes}
use Rattle.demands.proofs.strictly.chained.Goals as goal

pub returns : goal.returns
unfolding gives_chained
returns c =
    let a = c.args in (
      cc,
      λ ok low is e f g.
          rw (
            c.number_given-a.ensures,
            c.compare.ensures,
            c.number_given-b.ensures,
            c.compare-2.ensures,
            c.number_given-c.ensures,
            c.compare-3.ensures,
          )
          (chained-passes a.table.now a.columns a.term
          (record { is_accepted = ok; below = low; is_record = is }) a.x.now a.y.now a.z.now e f g),
    )
