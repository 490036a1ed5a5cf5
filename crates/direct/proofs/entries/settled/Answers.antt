-- `direct::entries::settled` meets its contract.
use mathlib.Core.Path.{◌∙◌}
use Rattle.laws.specs.Rounds.{count_kept}
use Rattle.direct.specs.Listing.{kept-rows}
use borrow.Author.Rules.{rules}
use Rattle.direct.proofs.entries.settled.Goals as goal

pub write_answers-requires-clause-kept : goal.write_answers-requires-clause-kept
write_answers-requires-clause-kept c =
    let q = c.list_kept-m.ensures in
    kept-rows _ _ _ _ _ c.eliminate.ensures.settled (search (rules, c.requires.cleared.of_kept)) q.count q.listed

pub returns : goal.returns
returns c =
    record {
      counted = c.list_kept-m.ensures.count ∙ count_kept _ _ _ c.eliminate.ensures.settled;
      written = c.write_answers.ensures;
    }
