-- `table::verdict::summary_of` meets its contract.
use mathlib.Core.Path.{◌≡◌, ◌∙◌}
use native.Mathlib.Omega.{arith}
use lib.ListN.{get_or}
use Rattle.model.specs.Term.{term_at, columns_of}
use Rattle.model.specs.Record.{record_count}
use Rattle.model.specs.Check.{summary, top_of}
use Rattle.table.proofs.VerdictLaws.{top_mask}
use Rattle.table.proofs.verdict.summary_of.Goals as goal

pub overflow_cast-records : goal.overflow_cast-records
unfolding record_count
overflow_cast-records c = omega (arith, c.requires.few)

pub masks-a-requires : goal.masks-a-requires
unfolding record_count
masks-a-requires c = c.requires.narrow

pub returns : goal.returns
unfolding summary record_count top_of
returns c =
    let n = c.nearest_term-top in
    let t = c.args.table.now in
    let e : get_or c.masks-a.result (top_of t) 0 ≡ columns_of (term_at t (top_of t)) =
    c.masks-a.ensures (top_of t) (omega (arith, c.requires.top, c.requires.few)) ∙ top_mask t c.requires.top in
    rw (c.count_columns-count.ensures, n.ensures.nearest, e)
