-- `parts::lowest_in_block::lowest_hit` meets its contract.
use Rattle.std.proofs.Common.{◌≡◌, true, false, List, ℕ, ◌≤◌, ◌<◌, arith, rules, tests}
use Rattle.std.specs.Prelude.{Option, Some, None}
use Rattle.std.specs.Option.{MatchOption}
use Rattle.std.proofs.lemmas.Iterator.{first_from_Range}
use Rattle.lanes.specs.Lit.{hit, lit}
use Rattle.parts.specs.LowestIn.{FirstHit}
use Rattle.parts.proofs.lowest_in_block.lowest_hit.Goals as goal

-- What a search from 0 finds.
from-zero : (live codes : List ℕ) (top : ℕ) (o : Option ℕ)
    → MatchOption o ((j : ℕ) → 0 ≤ j → j < 64 → hit live codes top 2 j ≡ false)
    (λ r. (0 ≤ r) × (r < 64) × (hit live codes top 2 r ≡ true) × ((j : ℕ) → 0 ≤ j → j < r → hit live codes top 2 j ≡ false))
    → MatchOption o ((j : ℕ) → j < 64 → hit live codes top 2 j ≡ false) (FirstHit live codes top)
from-zero live codes top None none = λ j l. none j (omega arith) l
from-zero live codes top (Some r) f = record { lane = f.1; hits = f.2; least = λ j l. f.3 j (omega arith) l }

pub returns : goal.returns
unfolding hit lit
returns c =
    let live = c.args.live.now in
    let codes = c.args.codes.now in
    let top = c.args.top in
    from-zero live codes top _ (
    first_from_Range _ _ _ _ (λ j. hit live codes top 2 j ≡ true) (λ j. hit live codes top 2 j ≡ false) c.find.ensures.ran
    (λ x q k. search (rules, tests))
    (λ x q k. (search rules, search (rules, tests))))
