-- What is known of the asked term's code in the lanes that are lit: record by record, to the codes. Assumes nothing.
use mathlib.Core.Path.{◌≡◌, refl, ◌∙◌}
use mathlib.Core.Logic.{⊎_elim}
use mathlib.Core.Bool.{Bool, true, false}
use mathlib.Core.List.{List}
use Prim.Native.Nat.{ℕ, ◌+◌, ◌*◌, ◌<◌}
use native.Mathlib.Omega.{arith}
use lib.IntN.{ℤ}
use lib.ListN.{get_or}
use borrow.Author.Tests.{eq-eqb}
use Rattle.model.specs.Record.{record_at, is_term}
use Rattle.model.specs.Term.{term_at}
use Rattle.model.specs.Query.{row_at}
use Rattle.model.specs.Compare.{outcome}
use Rattle.laws.specs.Bools.{on-or-off}
use Rattle.laws.specs.Codes.{code_below}
use Rattle.terms.specs.Prepared.{NextTerm}
use Rattle.plan.specs.declared.vetted.exit_masks.{Exit.Exit}
use Rattle.plan.specs.declared.vetted.exit_masks.Exit.TheVariants.{Nothing}
use Rattle.plan.specs.Told.{is_nothing}
use Rattle.plan.specs.Exits.{Exits, mask_at}
use Rattle.plan.proofs.Bits.{nothing-is}
use Rattle.plan.proofs.Known.{known-none, known-silent, known_more, known-stop, known-all, known_on}
use Rattle.laws.specs.Wrote.{Wrote}
use Rattle.lanes.specs.KnownLanes.{start_lane, bits_lane, Ended}
use Rattle.blocks.specs.Ready.{Coded}
use Rattle.blocks.specs.Blocks.{KnownLanes, RecordTold, AskedCoded}

module _ {table : List ℕ} {term : ℕ} {exits : List Exit} (e : Exits table term exits) {columns : ℕ} {rows : List ℤ} {n i b : ℕ}
    {live : List ℕ} where
  -- Nothing is known at first.
  pub lanes-none : {old known : List ℕ} → Wrote 0 (start_lane live) 0 64 old known
      → KnownLanes table term exits columns rows n i b 0 live known
  unfolding start_lane
  lanes-none {old} {known} w =
      record {
        each = λ j small row on.
            let q : 0 + j ≡ j = omega arith in
            let none : get_or known j 0 ≡ 0 = rw (eq-eqb (get_or live j 0) 1 on) at (rw q at (w.made j small)) in
            rw none (known-none e (row_at columns rows i) (row_at columns rows (b * 64 + j)));
      }

  module _ {k : ℕ} {known : List ℕ} (now : KnownLanes table term exits columns rows n i b k live known) where
    -- A record that tells nothing.
    pub lanes-silent : get_or exits k Nothing ≡ Nothing → KnownLanes table term exits columns rows n i b (k + 1) live known
    unfolding mask_at
    lanes-silent z =
        record {
          each = λ j small row on.
              known-silent e (row_at columns rows i) (row_at columns rows (b * 64 + j)) (now.each j small row on) z;
        }

    -- One that tells by its codes.
    pub lanes-told : {marks : List Bool} {codes new : List ℕ} {r : Bool} → get_or marks k false ≡ true
        → is_term (record_at table k) ≡ true → Coded table marks columns rows n i b (k + 1) codes
        → RecordTold (get_or exits k Nothing) codes k known new r → KnownLanes table term exits columns rows n i b (k + 1) live new
    unfolding mask_at
    lanes-told {marks} {codes} {new} m t c told =
        ⊎_elim
        (λ z. rw (told.silent z) (lanes-silent (nothing-is (get_or exits k Nothing) z)))
        (λ z. record {
          each = λ j small row on.
              let x = row_at columns rows i in
              let y = row_at columns rows (b * 64 + j) in
              let is = c.each k j (omega arith) m t small row in
              let low : get_or codes (k * 64 + j) 0 < 4 = rw is (code_below (outcome (term_at table k) x y)) in
              rw ((told.told z).made j small low, is)
              (known_more e x y (now.each j small row on) refl);
        })
        (on-or-off (is_nothing (get_or exits k Nothing)))

    -- Nothing can be added: the codes are known.
    pub asked-ended : {old codes : List ℕ} → Ended known 64 → Wrote 0 (bits_lane known) (term * 64) 64 old codes
        → AskedCoded table term columns rows n i b live codes
    unfolding bits_lane
    asked-ended d w =
        record {
          each = λ j small row on.
              w.made j small
              ∙ known-stop e (row_at columns rows i) (row_at columns rows (b * 64 + j)) (now.each j small row on) (d.each j small);
        }

    -- All records up to the term have told: so are they.
    pub asked-all : {old codes : List ℕ} → term < k → Wrote 0 (bits_lane known) (term * 64) 64 old codes
        → AskedCoded table term columns rows n i b live codes
    unfolding bits_lane
    asked-all past w =
        record {
          each = λ j small row on.
              w.made j small
              ∙ known-all e (row_at columns rows i) (row_at columns rows (b * 64 + j)) (now.each j small row on) past;
        }

  -- Up to the next term there are values only, which tell nothing.
  pub lanes_next : {k next m : ℕ} {known : List ℕ} → NextTerm table k m next
      → KnownLanes table term exits columns rows n i b (k + 1) live known
      → KnownLanes table term exits columns rows n i b next live known
  lanes_next {k} {next} {m} follows now =
      record {
        each = λ j small row on.
            known_on e (row_at columns rows i) (row_at columns rows (b * 64 + j)) (now.each j small row on)
            (λ h a l. e.terms h (follows.between h a l));
      }
