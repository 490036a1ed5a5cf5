-- `demands::agreement::left::same_answers` meets its contract.
use Rattle.demands.proofs.agreement.left.same_answers.Goals as goal

pub same_by_number-requires : goal.same_by_number-requires
same_by_number-requires c =
    c.requires c.in-Ok.kept c.in-Ok.is

pub returns-in-Ok : goal.returns-in-Ok
returns-in-Ok c = rw (c.in-Ok.is, c.same_by_number.ensures)
