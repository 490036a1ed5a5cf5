-- `lanes::vetted::marks::name_hits` meets its contract.
use Rattle.std.proofs.Common.{◌≡◌, false, List, ℕ, refl, sym, ◌∙◌}
use Rattle.model.specs.Search.{any_below}
use Rattle.laws.specs.Search.{none-e}
use Rattle.laws.specs.Wrote.{Wrote}
use Rattle.lanes.specs.Lit.{hit}
use Rattle.lanes.specs.Marks.{name_lane}
use Rattle.lanes.proofs.vetted.marks.name_hits.Goals as goal

-- Where no lane is hit every name stays.
names-stay : (by : List ℕ) (at : ℕ) (live codes : List ℕ) (top i : ℕ) → any_below 64 (hit live codes top 1) ≡ false
    → Wrote 0 (name_lane by at live codes top i) at 64 by by
unfolding name_lane
names-stay by at live codes top i none =
    record {
      made = λ j l. rw (none-e 64 (hit live codes top 1) none j l);
      below = λ x l. refl;
      above = λ x l. refl;
    }

pub returns-else-any_hit : goal.returns-else-any_hit
returns-else-any_hit c = names-stay _ _ _ _ _ _ (sym c.any_hit.ensures ∙ c.if-any_hit.false)
