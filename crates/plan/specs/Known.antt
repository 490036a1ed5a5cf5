-- What is known of the asked term's code from the records below k, where x is compared with y: bits that it has, or 4 more and
-- its whole code.
use Rattle.std.specs.Prelude.{◌≡◌, true, List, ℕ, ◌<◌}
use Rattle.model.specs.Term.{term_at}
use Rattle.model.specs.Better.{Row}
use Rattle.laws.specs.Codes.{code}
use Rattle.plan.specs.declared.vetted.exit_masks.{Exit.Exit}
use Rattle.plan.specs.Told.{bits, within, holds}
use Rattle.plan.specs.Exits.{tells_at}

pub record Known (table : List ℕ) (term : ℕ) (exits : List Exit) (x y : Row) (k known : ℕ) : Type 0 where
  pub few : known < 8
  pub true_of : holds known (code (term_at table term) x y) ≡ true
  pub told : (h : ℕ) → h < k → within (bits (tells_at table exits x y h)) (bits known) ≡ true
