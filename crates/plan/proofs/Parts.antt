-- The masks of a compound's parts follow from its own: PARETO and BOTH have the bits of both parts, PRIOR is as its left part
-- unless that is same, and DUAL turns its part's outcome. Assumes nothing.
use mathlib.Core.Path.{◌≡◌, refl, ◌∙◌, ap}
use mathlib.Core.Logic.{inl, inr, ⊎_elim}
use mathlib.Core.Bool.{Bool, true, false, ◌&&◌}
use mathlib.Core.List.{List}
use Prim.Native.Nat.{ℕ, ◌<◌, ◌≤◌}
use native.Mathlib.Omega.{arith}
use lib.Bits.{bit_or}
use lib.Dec.{eqb}
use lib.ListN.{get_or, set, replicate}
use borrow.Author.Tests.{eqb-true, eq-eqb, ne_eqb}
use Rattle.model.specs.declared.{Pair.Pair, Record.Record}
use Rattle.model.specs.declared.CompoundTerm.TheVariants.{Joined, Dual}
use Rattle.model.specs.declared.Pair.TheVariants.{Pareto, Prior, Both}
use Rattle.model.specs.declared.Record.TheVariants.{Base, Compound, Unknown}
use Rattle.model.specs.Record.{record_count, record_at, is_term}
use Rattle.model.specs.Term.{term_at}
use Rattle.model.specs.Better.{Row}
use Rattle.model.specs.Compare.{outcome}
use Rattle.laws.specs.Bools.{on-or-off, and_l, and_r, and_i}
use Rattle.laws.specs.Codes.{code, code_below, joined_code, prior_code, turned_code}
use Rattle.laws.proofs.Codes.{pair_code, dual-code}
use Rattle.laws.specs.Accepted.{Accepted}
use Rattle.laws.specs.AcceptedTable.{accepted-table}
use Rattle.laws.specs.AcceptedKinds.{accepted-joined, accepted-dual}
use Rattle.laws.proofs.AcceptedTerms.{accepted-sound}
use Rattle.plan.specs.declared.vetted.exit_masks.{Exit.Exit}
use Rattle.plan.specs.declared.vetted.exit_masks.Exit.TheVariants.{Nothing}
use Rattle.plan.specs.Told.{is_nothing, told_code, bits, within, holds, turned_mask, part_mask, own_mask}
use Rattle.plan.specs.Exits.{mask_at, tells_at, Exits, Exitable, PartsWithin, start_mask, pushed, left_pushed, dual_pushed, joined_pushed, record_pushed}
use Rattle.plan.proofs.Bits.{implied, dual-tells, left-holds, part-holds, parts_within, own-cases, nothing-is}
use Rattle.plan.proofs.Masks.{mask-here, mask-other, mask-entered, mask-cleared, start-bits, start-all}

-- The asked term is a record of the table, which has at most 128.
pub term-low : {table : List ℕ} {term : ℕ} → Exitable table term
    → (term < record_count table) × (record_count table ≤ 128)
term-low {table} e = (e.taken.below, (accepted-table table e.columns e.taken.is_accepted).few_records)

-- At first the asked term alone tells.
pub exits-start : (table : List ℕ) (term : ℕ) → term < 128 → is_term (record_at table term) ≡ true → (none : List Exit)
    → none ≡ replicate 128 Nothing → (r : Record) → Exits table term (set none term (start_mask r))
exits-start table term l is none blank (Record.Value a) = start-all table term l is none blank
exits-start table term l is none blank (Base column b) = start-all table term l is none blank
exits-start table term l is none blank (Compound (Joined Pareto p q)) = start-bits table term l is none blank
exits-start table term l is none blank (Compound (Joined Prior p q)) = start-all table term l is none blank
exits-start table term l is none blank (Compound (Joined Both p q)) = start-bits table term l is none blank
exits-start table term l is none blank (Compound (Dual p)) = start-all table term l is none blank
exits-start table term l is none blank Unknown = start-all table term l is none blank

below-not : (a k : ℕ) → a < k → eqb a k ≡ false
below-not a k l = ne_eqb a k (λ q. omega (arith, l, q))

module _ (table : List ℕ) (columns : ℕ) (ok : Accepted table columns) (term : ℕ) (k : ℕ) (below : k < record_count table)
    (most : k ≤ term) (exits : List Exit) (e : Exits table term exits) where
  few : k < 128
  few = omega (arith, below, (accepted-table table columns ok).few_records)

  abbrev m : Exit
  m = mask_at exits k

  asked-below : (x y : Row) → code (term_at table term) x y < 4
  asked-below x y = code_below (outcome (term_at table term) x y)

  -- What record k tells is true.
  own-true : (x y : Row) → holds (told_code m (code (term_at table k) x y)) (code (term_at table term) x y) ≡ true
  unfolding tells_at
  own-true x y = e.each k x y

  -- ---- PARETO and BOTH

  module _ (p q : ℕ) (pl : p < k) (ql : q < k) (pt : is_term (record_at table p) ≡ true) (qt : is_term (record_at table q) ≡ true)
      (kt : is_term (record_at table k) ≡ true)
      (is : (x y : Row) → code (term_at table k) x y ≡ bit_or (code (term_at table p) x y) (code (term_at table q) x y)) where
    abbrev v : Exit
    v = part_mask m

    part-true : Row → Row → ℕ → Bool
    part-true x y h = holds (told_code v (code (term_at table h) x y)) (code (term_at table term) x y)

    both_true : (x y : Row) → (part-true x y p && part-true x y q) ≡ true
    unfolding part-true
    both_true x y =
        implied (holds (told_code m (bit_or (code (term_at table p) x y) (code (term_at table q) x y))) (code (term_at table term) x y))
        (part-true x y p && part-true x y q)
        (part-holds m (code (term_at table p) x y) (code (term_at table q) x y) (code (term_at table term) x y)
        (code_below (outcome (term_at table p) x y)) (code_below (outcome (term_at table q) x y)) (asked-below x y))
        (rw (is x y) at (own-true x y))

    left-true : (x y : Row) → holds (told_code v (code (term_at table p) x y)) (code (term_at table term) x y) ≡ true
    unfolding part-true
    left-true x y = and_l (part-true x y p) (part-true x y q) (both_true x y)

    right-true : (x y : Row) → holds (told_code v (code (term_at table q) x y)) (code (term_at table term) x y) ≡ true
    unfolding part-true
    right-true x y = and_r (part-true x y p) (part-true x y q) (both_true x y)

    module _ (zp : mask_at exits p ≡ Nothing) (zq : mask_at exits q ≡ Nothing) where
      abbrev first : List Exit
      first = set exits p v

      first_exits : Exits table term first
      first_exits =
          mask-entered table term exits e p v (omega (arith, pl, few)) pt left-true (inl zp)

      abbrev second : List Exit
      second = set first q v

      first-p : (h : ℕ) → eqb h p ≡ true → mask_at first h ≡ v
      first-p = mask-here exits e.room p v (omega (arith, pl, few))

      first-other : (h : ℕ) → eqb h p ≡ false → mask_at first h ≡ mask_at exits h
      first-other = mask-other exits e.room p v (omega (arith, pl, few))

      second-q : (h : ℕ) → eqb h q ≡ true → mask_at second h ≡ v
      second-q = mask-here first first_exits.room q v (omega (arith, ql, few))

      second-other : (h : ℕ) → eqb h q ≡ false → mask_at second h ≡ mask_at first h
      second-other = mask-other first first_exits.room q v (omega (arith, ql, few))

      second_exits : Exits table term second
      second_exits =
          mask-entered table term first first_exits q v (omega (arith, ql, few)) qt right-true
          (⊎_elim (λ t. inr (first-p q t)) (λ t. inl (first-other q t ∙ zq)) (on-or-off (eqb q p)))

      at_p : mask_at second p ≡ v
      at_p = ⊎_elim (λ t. second-q p t) (λ t. second-other p t ∙ first-p p (eq-eqb p p refl)) (on-or-off (eqb p q))

      at-q : mask_at second q ≡ v
      at-q = second-q q (eq-eqb q q refl)

      at-k : mask_at second k ≡ m
      at-k = second-other k (ne_eqb k q (λ h. omega (arith, ql, h))) ∙ first-other k (ne_eqb k p (λ h. omega (arith, pl, h)))

      told-by : (x y : Row) (w : ℕ) → w < 4 → within (bits (tells_at table second x y p)) w ≡ true
          → within (bits (tells_at table second x y q)) w ≡ true → within (bits (tells_at table second x y k)) w ≡ true
      unfolding tells_at
      told-by x y w b a c =
          rw (at-k, is x y)
          (implied
          (within (bits (told_code v (code (term_at table p) x y))) w && within (bits (told_code v (code (term_at table q) x y))) w)
          (within (bits (told_code m (bit_or (code (term_at table p) x y) (code (term_at table q) x y)))) w)
          (parts_within m (code (term_at table p) x y) (code (term_at table q) x y) w
          (code_below (outcome (term_at table p) x y)) (code_below (outcome (term_at table q) x y)) b)
          (and_i (rw at_p at a) (rw at-q at c)))

      third-exits : Exits table term (set second k (own_mask m))
      third-exits =
          ⊎_elim
          (λ t. mask-cleared table term second second_exits k (own_mask m) few p q (below-not p k pl) (below-not q k ql)
          (omega (arith, pl, most)) (omega (arith, ql, most)) t told-by)
          (λ t. rw t (mask-entered table term second second_exits k m few kt own-true (inr at-k)))
          (own-cases m)

    pub pushed-exits : Exits table term (pushed p q k (get_or exits k Nothing) exits)
    unfolding pushed mask_at
    pushed-exits =
        ⊎_elim
        (λ t. rw t (third-exits (nothing-is _ (and_l (is_nothing (get_or exits p Nothing)) (is_nothing (get_or exits q Nothing)) t)) (nothing-is _ (and_r (is_nothing (get_or exits p Nothing)) (is_nothing (get_or exits q Nothing)) t))))
        (λ t. rw t e)
        (on-or-off (is_nothing (get_or exits p Nothing) && is_nothing (get_or exits q Nothing)))

  -- ---- PRIOR

  pub left-exits : (p q : ℕ) → p < k → is_term (record_at table p) ≡ true
      → ((x y : Row) → code (term_at table k) x y ≡ prior_code (code (term_at table p) x y) (code (term_at table q) x y))
      → Exits table term (left_pushed p (get_or exits k Nothing) exits)
  unfolding left_pushed mask_at
  left-exits p q pl pt is =
      ⊎_elim
      (λ t. rw t
      (mask-entered table term exits e p m (omega (arith, pl, few)) pt
      (λ x y. implied (holds (told_code m (prior_code (code (term_at table p) x y) (code (term_at table q) x y))) (code (term_at table term) x y))
      (holds (told_code m (code (term_at table p) x y)) (code (term_at table term) x y))
      (left-holds m (code (term_at table p) x y) (code (term_at table q) x y) (code (term_at table term) x y)
      (code_below (outcome (term_at table p) x y)) (code_below (outcome (term_at table q) x y)) (asked-below x y))
      (rw (is x y) at (own-true x y)))
      (inl (nothing-is _ t))))
      (λ t. rw t e)
      (on-or-off (is_nothing (get_or exits p Nothing)))

  -- ---- DUAL

  module _ (p : ℕ) (pl : p < k) (pt : is_term (record_at table p) ≡ true)
      (is : (x y : Row) → code (term_at table k) x y ≡ turned_code (code (term_at table p) x y)) where
    abbrev u : Exit
    u = turned_mask m

    turned-is : (x y : Row) → told_code u (code (term_at table p) x y) ≡ told_code m (code (term_at table k) x y)
    turned-is x y =
        rw (is x y) (eqb-true _ _ (dual-tells m (code (term_at table p) x y) (code_below (outcome (term_at table p) x y))))

    module _ (zp : mask_at exits p ≡ Nothing) where
      abbrev turned : List Exit
      turned = set exits p u

      turned-exits : Exits table term turned
      turned-exits =
          mask-entered table term exits e p u (omega (arith, pl, few)) pt
          (λ x y. rw (turned-is x y) (own-true x y)) (inl zp)

      part-tells : (x y : Row) (w : ℕ) → w < 4 → within (bits (tells_at table turned x y p)) w ≡ true
          → within (bits (tells_at table turned x y p)) w ≡ true → within (bits (tells_at table turned x y k)) w ≡ true
      unfolding tells_at
      part-tells x y w b a c =
          let at_p = mask-here exits e.room p u (omega (arith, pl, few)) p (eq-eqb p p refl) in
          let at-k = mask-other exits e.room p u (omega (arith, pl, few)) k (ne_eqb k p (λ h. omega (arith, pl, h))) in
          rw (at-k, ← (turned-is x y)) (rw at_p at a)

      cleared-exits : Exits table term (set turned k Nothing)
      cleared-exits =
          mask-cleared table term turned turned-exits k Nothing few p p (below-not p k pl) (below-not p k pl)
          (omega (arith, pl, most)) (omega (arith, pl, most)) refl part-tells

    pub dual-exits : Exits table term (dual_pushed p k (get_or exits k Nothing) exits)
    unfolding dual_pushed mask_at
    dual-exits =
        ⊎_elim (λ t. rw t (cleared-exits (nothing-is _ t))) (λ t. rw t e) (on-or-off (is_nothing (get_or exits p Nothing)))

  -- ---- any record

  module _ (op : Pair) (p q : ℕ) (is : record_at table k ≡ Compound (Joined op p q)) where
    joined_is : (x y : Row) → code (term_at table k) x y ≡ joined_code op (code (term_at table p) x y) (code (term_at table q) x y)
    joined_is x y =
        let a = accepted-joined table columns ok k below op p q is in
        let s = accepted-sound table columns ok k below (ap is_term is) in
        rw a.equation
        (pair_code op (term_at table p) (term_at table q) (rw a.equation at s.0) (rw a.equation at s.1) x y)

    joined-within : (p < 128) × (q < 128)
    joined-within =
        let a = accepted-joined table columns ok k below op p q is in
        (omega (arith, few, a.left), omega (arith, few, a.right))

  joined-exits : (op : Pair) (p q : ℕ) → record_at table k ≡ Compound (Joined op p q)
      → Exits table term (joined_pushed op p q k (get_or exits k Nothing) exits)
  unfolding joined_code
  joined-exits Pareto p q is =
      let a = accepted-joined table columns ok k below Pareto p q is in
      pushed-exits p q a.left a.right a.left_term a.right_term (ap is_term is) (joined_is Pareto p q is)
  joined-exits Prior p q is =
      let a = accepted-joined table columns ok k below Prior p q is in
      left-exits p q a.left a.left_term (joined_is Prior p q is)
  joined-exits Both p q is =
      let a = accepted-joined table columns ok k below Both p q is in
      pushed-exits p q a.left a.right a.left_term a.right_term (ap is_term is) (joined_is Both p q is)

  by-record : (r : Record) → record_at table k ≡ r → Exits table term (record_pushed r k exits)
  by-record (Record.Value a) is = e
  by-record (Base column b) is = e
  by-record (Compound (Joined op p q)) is = joined-exits op p q is
  by-record (Compound (Dual p)) is =
      let a = accepted-dual table columns ok k below p is in
      let s = accepted-sound table columns ok p (omega (arith, below, a.part)) a.part_term in
      dual-exits p a.part a.part_term (λ x y. rw a.equation (dual-code (term_at table p) s.0 s.1 x y))
  by-record Unknown is = e

  -- The masks with those of record k's parts.
  pub exits-more : Exits table term (record_pushed (record_at table k) k exits)
  exits-more = by-record (record_at table k) refl

  parts-by : (r : Record) → record_at table k ≡ r → PartsWithin r
  parts-by (Record.Value a) is = tt
  parts-by (Base column b) is = tt
  parts-by (Compound (Joined op p q)) is = joined-within op p q is
  parts-by (Compound (Dual p)) is = omega (arith, few, (accepted-dual table columns ok k below p is).part)
  parts-by Unknown is = tt

  -- A record's parts are among 128 records.
  pub parts_in : PartsWithin (record_at table k)
  parts_in = parts-by (record_at table k) refl
