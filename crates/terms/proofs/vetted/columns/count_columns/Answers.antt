-- `terms::vetted::columns::count_columns` meets its contract.
use Rattle.terms.proofs.Masks.{ones-count}
use Rattle.terms.proofs.vetted.columns.count_columns.Goals as goal

pub returns : goal.returns
returns c = ones-count c.args.mask c.ranges.mask.fits
