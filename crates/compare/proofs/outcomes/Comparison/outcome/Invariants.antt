-- `compare::outcomes::Comparison::outcome` meets its contract: the array holds the codes of the term records below `k`.
use Rattle.std.proofs.Common.{◌≡◌, true, ℕ, ◌<◌, length, get_or}
use Rattle.model.specs.Record.{record_at, is_term}
use Rattle.model.specs.Term.{term_at}
use Rattle.laws.specs.Codes.{code}
use Rattle.compare.proofs.outcomes.Comparison.outcome.Given as goal

abbrev pub invariant-loop-k : goal.invariant-loop-k
invariant-loop-k l =
    let t = l.self.of.table.now in
    (length l.codes ≡ 128)
    × ((i : ℕ) → i < l.k → is_term (record_at t i) ≡ true → get_or l.codes i 0 ≡ code (term_at t i) l.self.first.now l.self.second.now)
