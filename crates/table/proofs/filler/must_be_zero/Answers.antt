-- `table::filler::must_be_zero` meets its contract.
use Rattle.model.specs.Record.{record_of}
use Rattle.table.specs.Filler.{zero_row}
use Rattle.table.proofs.Constant.{rule-at}
use Rattle.table.proofs.filler.must_be_zero.Goals as goal

pub returns : goal.returns
unfolding record_of
returns c = λ row h. rule-at zero_row 16 row 0 h
