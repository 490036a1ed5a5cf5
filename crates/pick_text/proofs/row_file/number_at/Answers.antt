-- `pick_text::row_file::number_at` meets its contract: the bits are read as two's complement.
use mathlib.Core.Path.{◌≡◌, ap, ◌∙◌}
use native.Mathlib.Omega.{arith}
use mir.Facts.{to_z-of_z}
use mir.Syntax.{w32}
use borrow.Author.Rules.{sfits_of}
use Rattle.model.specs.Bytes.{byte_at, word_at, signed}
use Rattle.records.proofs.Signed.{bits-signed}
use Rattle.pick_text.proofs.row_file.number_at.Goals as goal

pub returns : goal.returns
unfolding word_at byte_at
returns c =
    let a = c.args in
    let read : c.from_le_bytes-word.result ≡ word_at a.bytes.now a.at = omega (arith, c.from_le_bytes-word.ensures) in
    to_z-of_z {w = w32} (sfits_of c.cast_signed.type_inv) ∙ c.cast_signed.ensures ∙ bits-signed c.from_le_bytes-word.result ∙ ap signed read
