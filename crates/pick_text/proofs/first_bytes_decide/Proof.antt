-- `pick_text::first_bytes_decide`: proved in proofs/Files. Assumes nothing.
use borrow.Author.Rules.{rules}
use Rattle.pick_text.proofs.Files.{first-bytes}
use Rattle.pick_text.proofs.first_bytes_decide.Statement.{statement}
use Rattle.pick_text.proofs.first_bytes_decide.Tie as tie

pub first_bytes_decide_spec : {M : Type 1} → statement M
first_bytes_decide_spec = tie.close (tie.spec (λ c prefs rows. search (first-bytes, rules)))
