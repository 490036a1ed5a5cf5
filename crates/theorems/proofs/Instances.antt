-- The theorems of src/lib.rt and of the second signed sentence (src/signed.rt) that have hypotheses, on table T1 and rows
-- V of the specification ("Worked cases"), with every hypothesis computed: none of them is empty. Assumes nothing.
-- What a reader or a contract cites stands in specs/Instances.
use Rattle.std.specs.Prelude.{◌≡◌, refl, ◌↔◌, true, List, ℕ}
use Rattle.std.proofs.Common.{arith}
use Rattle.model.specs.Record.{record_count, record_at, kind_at, is_term, p_at, q_at}
use Rattle.model.specs.Term.{term_at, columns_of}
use Rattle.model.specs.Better.{EqualIn}
use Rattle.model.specs.Demand.{is_chain, accepted, right_first, keeps}
use Rattle.model.specs.cases.Opened.{opened}
use Rattle.model.specs.cases.Tables.{T1, rows_v}
use Rattle.theorems.specs.Asked.{Asked, BeatenBy}
use Rattle.theorems.proofs.Cascade as cascade
use Rattle.theorems.specs.Instances.{T, row, seven, seven-rows, rows_fit, group-fits, lowest, long}

lowest-asked : Asked T1 3 rows_v 1 0
lowest-asked = record { of_term = lowest; rows_fit = rows_fit; group_fits = group-fits }

-- ---- chains

-- LOWEST is a chain, and keeps rows 4 and 5.
lowest-chain : is_chain (T 1) ≡ true
unfolding opened
lowest-chain = refl

four-and-five : (keeps T1 3 rows_v 1 0 seven 4 ≡ true) × (keeps T1 3 rows_v 1 0 seven 5 ≡ true)
unfolding opened
four-and-five = (refl, refl)

pub chain-keeps-equal : EqualIn (columns_of (T 1)) (row 4) (row 5)
chain-keeps-equal =
    cascade.chain-keeps-equal T1 3 rows_v 1 lowest-asked lowest-chain seven long 4 5 (omega (arith, seven-rows))
    (omega (arith, seven-rows)) four-and-five.0 four-and-five.1

-- The placing of record 2 with LOWEST first, which is PRIOR 1 0: its left part is that chain.
abbrev P : List ℕ
P = right_first T1 2

P-accepted : accepted P 3 ≡ true
unfolding opened
P-accepted = refl

P-records : record_count P ≡ 5
unfolding opened
P-records = refl

P-record : is_term (record_at P 2) ≡ true
unfolding opened
P-record = refl

P-prior : kind_at P 2 ≡ 17
unfolding opened
P-prior = refl

P-chain : is_chain (term_at P (p_at P 2)) ≡ true
unfolding opened
P-chain = refl

P-asked : Asked P 3 rows_v 2 0
P-asked =
    record {
      of_term = record { is_accepted = P-accepted; below = omega (arith, P-records); is_record = P-record };
      rows_fit = rows_fit;
      group_fits = group-fits;
    }

pub chain-prior : (keeps P 3 rows_v 2 0 seven 4 ≡ true)
    ↔ ((keeps P 3 rows_v (p_at P 2) 0 seven 4 ≡ true)
    × ((j : ℕ) → keeps P 3 rows_v (p_at P 2) 0 seven j ≡ true → BeatenBy P 3 rows_v (q_at P 2) 0 4 j → ⊥))
chain-prior = cascade.chain-prior P 3 rows_v 2 0 P-asked P-prior P-chain seven seven long long 4 (omega (arith, seven-rows))
