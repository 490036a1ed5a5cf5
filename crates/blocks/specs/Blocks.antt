-- What is known of the asked term's code, and the codes of row i against the rows of block b. Row b * 64 + j is lane j of block b.
use Rattle.std.specs.Prelude.{◌≡◌, Bool, true, false, List, ℕ, ◌+◌, ◌*◌, ◌<◌, ℤ, get_or}
use Rattle.model.specs.Term.{term_at}
use Rattle.model.specs.Query.{row_at}
use Rattle.laws.specs.Codes.{code}
use Rattle.plan.specs.declared.vetted.exit_masks.{Exit.Exit}
use Rattle.plan.specs.Told.{is_nothing}
use Rattle.plan.specs.Known.{Known}
use Rattle.lanes.specs.KnownLanes.{Told, Ended}

-- What is known of the asked term's code from the records below k, in each lane that is lit.
pub record KnownLanes (table : List ℕ) (term : ℕ) (exits : List Exit) (columns : ℕ) (rows : List ℤ) (n i b k : ℕ)
    (live known : List ℕ) : Type 0 where
  pub each : (j : ℕ) → j < 64 → b * 64 + j < n → get_or live j 0 ≡ 1
      → Known table term exits (row_at columns rows i) (row_at columns rows (b * 64 + j)) k (get_or known j 0)

-- Record k, of mask m, has told, and r says that nothing can be added in any lane.
pub record RecordTold (m : Exit) (codes : List ℕ) (k : ℕ) (old new : List ℕ) (r : Bool) : Type 0 where
  pub silent : is_nothing m ≡ true → new ≡ old
  pub told : is_nothing m ≡ false → Told m codes (k * 64) old new
  pub ended : r ≡ true → Ended new 64

-- The asked term's codes stand where its 64 go, in each lane that is lit.
pub record AskedCoded (table : List ℕ) (term columns : ℕ) (rows : List ℤ) (n i b : ℕ) (live codes : List ℕ) : Type 0 where
  pub each : (j : ℕ) → j < 64 → b * 64 + j < n → get_or live j 0 ≡ 1
      → get_or codes (term * 64 + j) 0 ≡ code (term_at table term) (row_at columns rows i) (row_at columns rows (b * 64 + j))
