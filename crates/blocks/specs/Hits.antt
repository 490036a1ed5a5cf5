-- What the lit lanes of a block and their codes say of row i and the rows of the block, the first of which is row lo.
-- Assumes nothing.
use Rattle.std.specs.Prelude.{◌≡◌, refl, Bool, true, false, ◌&&◌, List, ℕ, ◌+◌, ◌-◌, ◌*◌, ◌<◌, ◌≤◌, ℤ, get_or}
use Rattle.std.proofs.Common.{sym, ◌∙◌, arith, eqb-true}
use Rattle.std.proofs.Math.Path.{ap}
use Rattle.std.proofs.Math.Logic.{⊎_elim}
use Rattle.std.proofs.Math.Dec.{eqb}
use Rattle.model.specs.Search.{any_below}
use Rattle.model.specs.Term.{Term, term_at}
use Rattle.model.specs.Better.{Row, equal_in}
use Rattle.model.specs.Query.{row_at, beats_in}
use Rattle.laws.specs.Bools.{on-or-off}
use Rattle.laws.specs.Search.{none-e}
use Rattle.laws.specs.Members.{and-off}
use Rattle.laws.specs.Order.{Rel, Strict}
use Rattle.laws.specs.Sound.{sound, within}
use Rattle.laws.proofs.Strict.{ordered}
use Rattle.laws.specs.Rows.{beats-strict}
use Rattle.laws.specs.Codes.{code}
use Rattle.laws.specs.AcceptedTable.{accepted-table}
use Rattle.laws.proofs.Taken.{taken-sound}
use Rattle.laws.specs.Cases.{below_or_not}
use Rattle.laws.specs.Elimination.{Apart}
use Rattle.laws.proofs.Beats.{beats-one, beats-two}
use Rattle.lanes.specs.Lit.{lit, hit}
use Rattle.plan.specs.declared.vetted.exit_masks.{Exit.Exit}
use Rattle.blocks.specs.Alive.{Cells, Alive}
use Rattle.blocks.specs.Ready.{Ready}
use Rattle.blocks.specs.Blocks.{AskedCoded}

-- Of the lanes that pass, those with code 1 are beaten by row i and those with code 2 beat it.
pub record Hits (beats : Rel ℕ) (n i lo : ℕ) (pass : ℕ → Bool) (live codes : List ℕ) (top : ℕ) : Type 0 where
  pub one : (j : ℕ) → j < 64 → lo + j < n → hit live codes top 1 j ≡ (pass j && beats i (lo + j))
  pub two : (j : ℕ) → j < 64 → lo + j < n → hit live codes top 2 j ≡ (pass j && beats (lo + j) i)
  pub off : (c j : ℕ) → j < 64 → n ≤ lo + j → hit live codes top c j ≡ false

-- The rows of the lanes that pass are apart from row i.
pub record Dark (beats : Rel ℕ) (n i lo : ℕ) (pass : ℕ → Bool) : Type 0 where
  pub apart : (j : ℕ) → j < 64 → lo + j < n → pass j ≡ true → Apart beats i (lo + j)

-- A row stands before a block, in it, or after it.
pub in_block {ℓ} : {X : Type ℓ} (x lo : ℕ) → (x < lo → X) → ((j : ℕ) → j < 64 → x ≡ lo + j → X) → (lo + 64 ≤ x → X) → X
in_block x lo f g h =
    ⊎_elim f
    (λ p. ⊎_elim (λ q. g (x - lo) (omega arith) (omega arith)) h (below_or_not x (lo + 64)))
    (below_or_not x lo)

and_assoc : (a b c : Bool) → ((a && b) && c) ≡ (a && (b && c))
and_assoc true b c = refl
and_assoc false b c = refl

-- ---- of the lanes that are lit

module _ (t : Term) (s : sound t ≡ true) (w : within 8 t ≡ true) (columns : ℕ) (rows : List ℤ) (group n i b : ℕ)
    (pass : ℕ → Bool) (live : List ℕ) (alive : Alive group columns rows n i b pass live) where
  abbrev row : ℕ → Row
  row j = row_at columns rows j

  -- No lane is lit: a row that passes is not of row i's group.
  pub dark : any_below 64 (lit live) ≡ false → Dark (beats_in t columns rows group) n i (b * 64) pass
  dark e = record { apart = λ j l h p. let o = other j l h p in (one j o, two j o) }
    where
      other : (j : ℕ) → j < 64 → b * 64 + j < n → pass j ≡ true → equal_in group (row i) (row (b * 64 + j)) ≡ false
      other j l h p = and-off (pass j) _ (sym (alive.on j l h) ∙ none-e 64 (lit live) e j l) p

      one : (j : ℕ) → equal_in group (row i) (row (b * 64 + j)) ≡ false → beats_in t columns rows group i (b * 64 + j) ≡ false
      one j o = beats-one t s w columns rows group i (b * 64 + j) ∙ rw o

      two : (j : ℕ) → equal_in group (row i) (row (b * 64 + j)) ≡ false → beats_in t columns rows group (b * 64 + j) i ≡ false
      two j o = beats-two t s w columns rows group i (b * 64 + j) ∙ rw o

  -- A lit lane's code says which of the two rows is better.
  module _ (codes : List ℕ) (top : ℕ)
      (coded : (j : ℕ) → j < 64 → b * 64 + j < n → get_or live j 0 ≡ 1
      → get_or codes (top + j) 0 ≡ code t (row i) (row (b * 64 + j))) where
    hit-parts : (c j : ℕ) → j < 64 → b * 64 + j < n
        → hit live codes top c j
        ≡ (pass j && (equal_in group (row i) (row (b * 64 + j)) && eqb (code t (row i) (row (b * 64 + j))) c))
    unfolding hit lit
    hit-parts c j l h =
        let same = equal_in group (row i) (row (b * 64 + j)) in
        let is = eqb (code t (row i) (row (b * 64 + j))) c in
        ⊎_elim
        (λ on. rw (alive.on j l h, coded j l h (eqb-true (get_or live j 0) 1 on)) (and_assoc (pass j) same is))
        (λ off. rw off
        (sym (sym (and_assoc (pass j) same is) ∙ ap (λ (x : Bool). x && is) (sym (alive.on j l h) ∙ off))))
        (on-or-off (eqb (get_or live j 0) 1))

    hit-off : (c j : ℕ) → j < 64 → n ≤ b * 64 + j → hit live codes top c j ≡ false
    unfolding hit
    hit-off c j l h = rw (alive.off j l h)

    pub hits : Hits (beats_in t columns rows group) n i (b * 64) pass live codes top
    hits =
        record {
          one = λ j l h. hit-parts 1 j l h
              ∙ ap (λ (x : Bool). pass j && x) (sym (beats-one t s w columns rows group i (b * 64 + j)));
          two = λ j l h. hit-parts 2 j l h
              ∙ ap (λ (x : Bool). pass j && x) (sym (beats-two t s w columns rows group i (b * 64 + j)));
          off = hit-off;
        }

-- ---- of a query that is ready

module _ {table : List ℕ} {numbers : List ℤ} {ends : List ℕ} {reach : List (List Bool)} {marks : List Bool}
    {exits : List Exit} {term columns : ℕ} {rows : List ℤ} {n stride : ℕ} {ranks values : List ℤ}
    (ready : Ready table numbers ends reach marks exits term columns rows n stride ranks values) where
  -- Its cells by block.
  pub cells : Cells columns rows n values
  cells =
      record {
        run = ready.run;
        narrow = (accepted-table table columns ready.taken.is_accepted).few_columns;
        few = ready.few;
        room = ready.value_room;
        valued = ready.valued;
      }

  -- The asked record is one of at most 128.
  pub asked-below : term < 128
  asked-below = omega (arith, ready.taken.below, (accepted-table table columns ready.taken.is_accepted).few_records)

  -- Its rows' numbers are below 1024.
  pub row_below : (i : ℕ) → i < n → i < 1024
  row_below i l = omega (arith, ready.few)

  -- Its rows are ordered strictly.
  pub ready-strict : (group : ℕ) → Strict (beats_in (term_at table term) columns rows group)
  ready-strict group =
      let s = taken-sound table columns term ready.taken in
      beats-strict columns rows group (term_at table term) (ordered (term_at table term) s.0 s.1).strict

  -- A block that it meets: no lane is lit, or the lit lanes have codes.
  module _ {group i b : ℕ} {pass : ℕ → Bool} {live : List ℕ} (alive : Alive group columns rows n i b pass live) where
    pub ready-dark : any_below 64 (lit live) ≡ false
        → Dark (beats_in (term_at table term) columns rows group) n i (b * 64) pass
    ready-dark e =
        let s = taken-sound table columns term ready.taken in
        dark (term_at table term) s.0 s.1 columns rows group n i b pass live alive e

    pub ready-hits : {codes : List ℕ} → AskedCoded table term columns rows n i b live codes
        → Hits (beats_in (term_at table term) columns rows group) n i (b * 64) pass live codes (term * 64)
    ready-hits {codes} coded =
        let s = taken-sound table columns term ready.taken in
        hits (term_at table term) s.0 s.1 columns rows group n i b pass live alive codes (term * 64)
        coded.each
