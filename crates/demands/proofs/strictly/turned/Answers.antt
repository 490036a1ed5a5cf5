-- `demands::strictly::turned` meets its contract, by that of `compare`.
use Rattle.demands.specs.Given.{gives_turned}
use Rattle.demands.proofs.Replies.{turned-passes}
use Rattle.demands.proofs.strictly.turned.Goals as goal

pub returns : goal.returns
unfolding gives_turned
returns c =
    let a = c.args in
    let x = a.x.now in
    let y = a.y.now in (
      cc,
      λ ok low is e f.
          rw (c.number_given-there.ensures, c.compare.ensures, c.number_given-back.ensures, c.compare-2.ensures)
          (turned-passes a.table.now a.columns a.term
          (record { is_accepted = ok; below = low; is_record = is }) x y y e f f),
    )
