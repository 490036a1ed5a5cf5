-- `theorems::signed::third_sentence`: proved in proofs/Joined. Assumes nothing.
use Rattle.theorems.proofs.Joined.{third-sentence}
use Rattle.theorems.proofs.signed.third_sentence.Statement.{statement}
use Rattle.theorems.proofs.signed.third_sentence.Tie as tie

pub third_sentence_spec : {M : Type 1} → statement M
third_sentence_spec = tie.close (tie.spec (λ c. third-sentence))
