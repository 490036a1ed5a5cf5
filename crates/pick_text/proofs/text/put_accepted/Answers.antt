-- `pick_text::text::put_accepted` meets its contract.
use mathlib.Core.Path.{sym, ◌∙◌}
use native.Mathlib.Omega.{arith}
use Rattle.pick_text.proofs.Joins.{wider}
use Rattle.pick_text.proofs.Refused.{file-refused}
use Rattle.pick_text.proofs.text.put_accepted.Goals as goal

pub returns-then-fails_file : goal.returns-then-fails_file
returns-then-fails_file c =
    let e = file-refused c.args.prefs.now c.args.rows.now c.args.s c.requires.accepted
    (sym c.fails_file.ensures ∙ c.if-fails_file.true) in
    wider c.put_refused.ensures e (omega arith)
