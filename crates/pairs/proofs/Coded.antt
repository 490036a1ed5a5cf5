-- The codes of the records beneath the asked term, for two rows of the run, are those of their terms. Assumes nothing.
use mathlib.Core.Path.{◌≡◌, refl, sym, ◌∙◌, ap}
use mathlib.Core.Bool.{Bool, true, false, false≢true}
use mathlib.Core.List.{List}
use Prim.Native.Nat.{ℕ, ◌+◌, ◌*◌, ◌/◌, ◌%◌, ◌<◌}
use native.Mathlib.Omega.{arith}
use lib.IntN.{ℤ, pos}
use lib.ListN.{get_or, length}
use lib.Signed.{lt_z}
use Rattle.model.specs.declared.{BaseTerm.BaseTerm, CompoundTerm.CompoundTerm, Pair.Pair, Record.Record}
use Rattle.model.specs.declared.BaseTerm.TheVariants.{Lowest, Highest, Around, Between, Pos, Neg, PosNeg, PosPos, Explicit, Any}
use Rattle.model.specs.declared.CompoundTerm.TheVariants.{Joined, Dual}
use Rattle.model.specs.declared.Pair.TheVariants.{Pareto, Prior, Both}
use Rattle.model.specs.declared.Record.TheVariants.{Base, Compound, Unknown}
use Rattle.model.specs.Record.{record_count, record_at, is_term}
use Rattle.model.specs.Term.{term_at}
use Rattle.model.specs.Bytes.{eq_z}
use Rattle.model.specs.Better.{Row, cell}
use Rattle.laws.specs.Runs.{values_between}
use Rattle.laws.specs.Codes.{code, joined_code}
use Rattle.laws.specs.ValueCodes.{tests_code, apart_code}
use Rattle.laws.specs.Accepted.{Accepted}
use Rattle.laws.specs.AcceptedTable.{accepted-table}
use Rattle.laws.specs.AcceptedKinds.{accepted-joined, accepted-dual}
use Rattle.terms.specs.Prepared.{Run}
use Rattle.rows.specs.Places.{row-length}
use Rattle.terms.specs.Coded.{same_code, other-code}
use Rattle.plan.specs.Codes.{of-base, base-sound, base-code-is, joined-code-is, dual-code-is}
use Rattle.ranks.specs.Rank.{RankAt}
use Rattle.ranks.specs.ByRank.{is_explicit, rank_is, by_rank}
use Rattle.plan.specs.declared.vetted.exit_masks.{Exit.Exit}
use Rattle.plan.specs.declared.vetted.ops.{Op.Op, Step.Step}
use Rattle.plan.specs.Ops.{base_op, pair_op, step_of}
use Rattle.pairs.specs.Pairs.{Comparable, RowOf, RecordOf, CodesBelow, is_base, op_code}
use Rattle.pairs.specs.Ranks.{TwoRanked}

-- An operation joins codes as its kind of compound does.
op-joins : (op : Pair) (a b : ℕ) → op_code (pair_op op) a b ≡ joined_code op a b
unfolding joined_code
op-joins Pareto a b = refl
op-joins Prior a b = refl
op-joins Both a b = refl

-- A term record with the operation of a base term is one,
base-by : (r : Record) → is_term r ≡ true → is_base (step_of r).op ≡ true → (column : ℕ) × (b : BaseTerm) × (r ≡ Base column b)
base-by (Record.Value a) t e = absurd (false≢true t)
base-by (Base column b) t e = (column, b, refl)
base-by (Compound (Joined Pareto p q)) t e = absurd (false≢true e)
base-by (Compound (Joined Prior p q)) t e = absurd (false≢true e)
base-by (Compound (Joined Both p q)) t e = absurd (false≢true e)
base-by (Compound (Dual p)) t e = absurd (false≢true e)
base-by Unknown t e = absurd (false≢true t)

base-op-is : (b : BaseTerm) → is_base (base_op b) ≡ true
base-op-is Lowest = refl
base-op-is Highest = refl
base-op-is (Around wish) = refl
base-op-is (Between low up) = refl
base-op-is Pos = refl
base-op-is Neg = refl
base-op-is PosNeg = refl
base-op-is PosPos = refl
base-op-is Explicit = refl
base-op-is Any = refl

-- and one with another is a compound.
compound-by : (r : Record) → is_term r ≡ true → is_base (step_of r).op ≡ false → (c : CompoundTerm) × (r ≡ Compound c)
compound-by (Record.Value a) t e = absurd (false≢true t)
compound-by (Base column b) t e = absurd (false≢true (sym e ∙ base-op-is b))
compound-by (Compound c) t e = (c, refl)
compound-by Unknown t e = absurd (false≢true t)

pub other-op : (op : Op) → (op ≡ Op.ByRank → ⊥) → (op ≡ Op.Places → ⊥) → is_base op ≡ false
other-op Op.ByRank r p = absurd (r refl)
other-op Op.Places r p = absurd (p refl)
other-op Op.Join r p = refl
other-op Op.Prior r p = refl
other-op Op.Dual r p = refl

-- Only EXPLICIT goes by places,
pub not-explicit : (b : BaseTerm) → (base_op b ≡ Op.Places → ⊥) → is_explicit b ≡ false
unfolding is_explicit
not-explicit Lowest e = refl
not-explicit Highest e = refl
not-explicit (Around wish) e = refl
not-explicit (Between low up) e = refl
not-explicit Pos e = refl
not-explicit Neg e = refl
not-explicit PosNeg e = refl
not-explicit PosPos e = refl
not-explicit Explicit e = absurd (e refl)
not-explicit Any e = refl

by-places : Op → Bool
by-places Op.ByRank = false
by-places Op.Places = true
by-places Op.Join = false
by-places Op.Prior = false
by-places Op.Dual = false

-- and no other does.
pub is-explicit : (b : BaseTerm) → base_op b ≡ Op.Places → b ≡ Explicit
unfolding by-places
is-explicit Lowest e = absurd (false≢true (ap by-places e))
is-explicit Highest e = absurd (false≢true (ap by-places e))
is-explicit (Around wish) e = absurd (false≢true (ap by-places e))
is-explicit (Between low up) e = absurd (false≢true (ap by-places e))
is-explicit Pos e = absurd (false≢true (ap by-places e))
is-explicit Neg e = absurd (false≢true (ap by-places e))
is-explicit PosNeg e = absurd (false≢true (ap by-places e))
is-explicit PosPos e = absurd (false≢true (ap by-places e))
is-explicit Explicit e = refl
is-explicit Any e = absurd (false≢true (ap by-places e))

module _ {table : List ℕ} {ops : List Step} {ends : List ℕ} {reach : List (List Bool)} {marks : List Bool}
    {exits : List Exit} {term columns : ℕ} {rows : List ℤ} {n stride : ℕ} {ranks : List ℤ}
    (ready : Comparable table ops ends reach marks exits term columns rows n stride ranks) where
  ok : Accepted table columns
  ok = ready.taken.is_accepted

  -- The asked term is one of at most 128 records.
  pub term-below : term < 128
  term-below = omega (arith, ready.taken.below, (accepted-table table columns ok).few_records)

  -- A row of the run has the run's columns.
  row_is : {i : ℕ} {row : Row} → RowOf columns rows n i row → length row ≡ columns
  row_is {i} r = rw r.is (row-length columns rows n ready.run i r.below)

  module _ {k : ℕ} (at : RecordOf table marks term k) where
    below : k < record_count table
    below = omega (arith, at.most, ready.taken.below)

    -- So is each record beneath it.
    record-below : k < 128
    record-below = omega (arith, at.most, term-below)

    run : Run table k (get_or ends k 0)
    run = ready.runs.each k below at.is_record

    -- With the operation of a base term it is one,
    pub based : {s : Step} → s ≡ step_of (record_at table k) → is_base s.op ≡ true
        → (b : BaseTerm) × (record_at table k ≡ Base s.left b) × (s.op ≡ base_op b)
    based {s} is e =
        let w = base-by (record_at table k) at.is_record (rw is at e) in
        let q : s ≡ step_of (Base w.0 w.1) = is ∙ ap step_of w.2 in
        (w.1, w.2 ∙ ap (λ (c : ℕ). Base c w.1) (sym (ap (λ (t : Step). t.left) q)), ap (λ (t : Step). t.op) q)

    -- and with another a compound.
    compounded : {s : Step} → s ≡ step_of (record_at table k) → is_base s.op ≡ false
        → (c : CompoundTerm) × (record_at table k ≡ Compound c) × (s ≡ step_of (Compound c))
    compounded {s} is e =
        let w = compound-by (record_at table k) at.is_record (rw is at e) in
        (w.0, w.1, is ∙ ap step_of w.1)

    module _ {column : ℕ} {b : BaseTerm} (is : record_at table k ≡ Base column b) where
      pub column-in : {i : ℕ} {row : Row} → RowOf columns rows n i row → column < length row
      column-in r = rw (row_is r) (of-base ok below is).below

      rank-of : {i : ℕ} {row : Row} → RowOf columns rows n i row
          → RankAt table k (get_or ends k 0) b (cell row column) (get_or ranks (i / 64 * stride + k * 64 + i % 64) (pos 0))
      rank-of {i} r =
          let q : i / 64 * 64 + i % 64 ≡ i = omega arith in
          rw r.is
          (rw q at
          (ready.ranked.each (i / 64) (i % 64) k column b (omega arith) (omega (arith, r.below)) (omega (arith, at.most)) at.marked is))

      -- Two rows' values with their ranks.
      pub two-ranked : {i j : ℕ} {x y : Row} → RowOf columns rows n i x → RowOf columns rows n j y
          → TwoRanked table reach k (get_or ends k 0) b (cell x column) (cell y column)
          (get_or ranks (i / 64 * stride + k * 64 + i % 64) (pos 0)) (get_or ranks (j / 64 * stride + k * 64 + j % 64) (pos 0))
      two-ranked r s =
          record {
            values = run.values;
            reached = λ q. ready.reached.each k column below (rw q at is);
            first = rank-of r;
            second = rank-of s;
          }

      -- Equal values are the same,
      pub same-is : (x y : Row) → eq_z (cell x column) (cell y column) ≡ true → 0 ≡ code (term_at table k) x y
      same-is x y e =
          same_code b (values_between table k (get_or ends k 0)) (cell x column) (cell y column) e ∙ base-code-is ok below is run x y

      module _ (x y : Row) (apart : eq_z (cell x column) (cell y column) ≡ false) where
        other : apart_code b (values_between table k (get_or ends k 0)) (cell x column) (cell y column) ≡ code (term_at table k) x y
        other = other-code b (values_between table k (get_or ends k 0)) (cell x column) (cell y column) apart ∙ base-code-is ok below is run x y

        -- others go by rank,
        pub ranked-is : is_explicit b ≡ false → {i j : ℕ} → RowOf columns rows n i x → RowOf columns rows n j y
            → tests_code false
            (lt_z (get_or ranks (i / 64 * stride + k * 64 + i % 64) (pos 0)) (get_or ranks (j / 64 * stride + k * 64 + j % 64) (pos 0)))
            (lt_z (get_or ranks (j / 64 * stride + k * 64 + j % 64) (pos 0)) (get_or ranks (i / 64 * stride + k * 64 + i % 64) (pos 0)))
            ≡ code (term_at table k) x y
        unfolding apart_code
        ranked-is h r s =
            let v = cell x column in
            let w = cell y column in
            let e = get_or ends k 0 in
            let values = values_between table k e in
            rw (rank_is table k e b h v _ (rank-of r), rank_is table k e b h w _ (rank-of s))
            (rw (by_rank values b (base-sound ok below is run) h w v, by_rank values b (base-sound ok below is run) h v w) at other)

        -- and EXPLICIT's by its edges.
        pub explicit-code-is : b ≡ Explicit
            → apart_code Explicit (values_between table k (get_or ends k 0)) (cell x column) (cell y column) ≡ code (term_at table k) x y
        explicit-code-is q = rw q at other

    -- The parts of a compound are among 128 records,
    parts_below : (c : CompoundTerm) → record_at table k ≡ Compound c
        → ((step_of (Compound c)).left < 128) × ((step_of (Compound c)).right < 128)
    parts_below (Joined op p q) is =
        let a = accepted-joined table columns ok k below op p q is in
        (omega (arith, record-below, a.left), omega (arith, record-below, a.right))
    parts_below (Dual p) is = (omega (arith, record-below, (accepted-dual table columns ok k below p is).part), omega arith)

    -- and its code is made from theirs.
    compound-code-is : (c : CompoundTerm) → record_at table k ≡ Compound c → (x y : Row) (codes : List ℕ)
        → CodesBelow table marks x y k codes
        → op_code (step_of (Compound c)).op (get_or codes (step_of (Compound c)).left 0) (get_or codes (step_of (Compound c)).right 0)
        ≡ code (term_at table k) x y
    compound-code-is (Joined op p q) is x y codes r =
        let a = accepted-joined table columns ok k below op p q is in
        let m = ready.marked.parts k (Joined op p q) (omega arith) at.most at.marked is in
        op-joins op (get_or codes p 0) (get_or codes q 0)
        ∙ joined-code-is ok below is x y (r.each p a.left m.0 a.left_term) (r.each q a.right m.1 a.right_term)
    compound-code-is (Dual p) is x y codes r =
        let a = accepted-dual table columns ok k below p is in
        let m = ready.marked.parts k (Dual p) (omega arith) at.most at.marked is in
        dual-code-is ok below is x y (r.each p a.part m a.part_term)

    module _ {s : Step} (is : s ≡ step_of (record_at table k)) (other : is_base s.op ≡ false) where
      -- The same by its step.
      pub parts_low : (s.left < 128) × (s.right < 128)
      parts_low =
          let w = compounded is other in
          let b = parts_below w.0 w.1 in
          rw w.2 b

      pub joined_is : (x y : Row) (codes : List ℕ) → CodesBelow table marks x y k codes
          → op_code s.op (get_or codes s.left 0) (get_or codes s.right 0) ≡ code (term_at table k) x y
      joined_is x y codes r =
          let w = compounded is other in
          rw w.2 (compound-code-is w.0 w.1 x y codes r)
