-- `table::judging::judge_record` meets its contract.
use mathlib.Core.Path.{sym, ◌∙◌}
use borrow.Author.Rules.{rules}
use Rattle.table.proofs.StepsLaws.{judge-after}
use Rattle.table.proofs.judging.judge_record.Goals as goal

pub returns-in_err-judge_fields : goal.returns-in_err-judge_fields
returns-in_err-judge_fields c =
    rw (judge-after c.args.before.now.table.now c.args.columns c.args.before.now.k _ (sym c.in_err-judge_fields.ensures)) (search rules)

pub returns : goal.returns
returns c =
    c.judge_rest.ensures
    ∙ sym (judge-after c.args.before.now.table.now c.args.columns c.args.before.now.k _ (sym c.in_ok-judge_fields.ensures))
