-- The third signed sentence on records of kind 16, 17 and 18, with every hypothesis computed, each clause used on rows
-- whose answers are computed: none of them is empty. Assumes nothing.
use Rattle.std.specs.Prelude.{◌≡◌, refl, true, List, ℕ}
use Rattle.std.proofs.Common.{arith}
use Rattle.model.specs.Record.{record_count, record_at, p_at, q_at, is_term}
use Rattle.model.specs.Demand.{accepted, left_first}
use Rattle.model.specs.cases.Opened.{opened}
use Rattle.model.specs.cases.Tables.{T1, rows_v}
use Rattle.theorems.specs.Asked.{Asked}
use Rattle.theorems.specs.Instances.{rows_fit, group-fits}

-- ---- kind 17: the placing of T1's record 2 that has AROUND before LOWEST, over V

abbrev pub P : List ℕ
P = left_first T1 2

P-accepted : accepted P 3 ≡ true
unfolding opened
P-accepted = refl

P-records : record_count P ≡ 5
unfolding opened
P-records = refl

P-record : is_term (record_at P 2) ≡ true
unfolding opened
P-record = refl

P-parts : (p_at P 2 ≡ 0) × (q_at P 2 ≡ 1)
unfolding opened
P-parts = (refl, refl)

pub P-asked : Asked P 3 rows_v 2 0
P-asked =
    record {
      of_term = record { is_accepted = P-accepted; below = omega (arith, P-records); is_record = P-record };
      rows_fit = rows_fit;
      group_fits = group-fits;
    }
