-- `parts::kept::Kept::entries` meets its contract.
use mathlib.Core.Path.{◌∙◌}
use Rattle.laws.specs.Rounds.{count_kept}
use Rattle.blocks.specs.Hits.{ready-strict}
use Rattle.parts.specs.Answers.{known-names, rest-named, entries-answers}
use Rattle.parts.proofs.kept.Kept.entries.Goals as goal

pub name-requires : goal.name-requires
name-requires c =
    let q = c.args.self.now in
    let w = c.first_names.ensures in
    record {
      codes = c.requires.codes;
      beyond = rest-named _ _ w;
      named = known-names _ _ q.of.rows.few _ _ q.settled c.requires.firsts _ _ w;
    }

pub returns : goal.returns
returns c =
    let q = c.args.self.now in
    let wrote = c.write_answers.ensures in
    record {
      counted = wrote.counted ∙ count_kept _ _ _ q.settled;
      written = wrote.written ∙ entries-answers _ (ready-strict q.of.ready _) _ _ _ q.settled c.name.ensures c.args.answers.now;
    }
