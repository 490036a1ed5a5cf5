-- `records::record::u_at` meets its contract.
use Rattle.std.proofs.Common.{◌∙◌, ap}
use Rattle.model.specs.Bytes.{signed}
use Rattle.model.specs.Record.{u_at}
use Rattle.records.proofs.Signed.{bits-signed, returned}
use Rattle.records.proofs.record.u_at.Goals as goal

pub returns : goal.returns
unfolding u_at
returns c = returned c.cast_signed.result c.cast_signed.type_inv (c.cast_signed.ensures ∙ bits-signed c.u_word.result ∙ ap signed c.u_word.ensures)
