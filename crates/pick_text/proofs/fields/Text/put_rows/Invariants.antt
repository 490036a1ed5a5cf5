-- `pick_text::fields::Text::put_rows` meets its contract: after i rows their lines stand.
use Rattle.std.specs.Prelude.{◌*◌, ℕ, get_or}
use Rattle.model.specs.Pick.{rows_text}
use Rattle.pick_text.specs.Printed.{Wrote}
use Rattle.pick_text.proofs.fields.Text.put_rows.Given as goal

abbrev pub invariant-loop-i : goal.invariant-loop-i
invariant-loop-i l = Wrote l.initial.self (rows_text l.i (λ (j : ℕ). get_or l.answers j 0)) (15 * l.i) l.self
