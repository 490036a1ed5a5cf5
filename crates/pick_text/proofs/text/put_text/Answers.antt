-- `pick_text::text::put_text` meets its contract.
use mathlib.Core.Path.{sym, ◌∙◌}
use native.Mathlib.Omega.{arith}
use Rattle.pick_text.proofs.Joins.{wider}
use Rattle.pick_text.proofs.Refused.{table-refused}
use Rattle.pick_text.proofs.text.put_text.Goals as goal

pub returns-in-Err : goal.returns-in-Err
returns-in-Err c =
    let e = table-refused c.args.prefs.now c.args.rows.now _ (sym c.check.ensures ∙ c.in-Err.is) in
    wider c.put_refused.ensures e (omega arith)
