-- One block of a round, over any relation: row i meets the rows of the block, the first of which is row lo. Assumes nothing.
use Rattle.std.specs.Prelude.{◌≡◌, refl, ◌⊎◌, Bool, true, false, cond, not, ◌||◌, List, ℕ, ◌+◌, ◌<◌, ◌≤◌, eqb, length, get_or, set}
use Rattle.std.proofs.Common.{sym, ◌∙◌, arith, get_or-set_same, get_or-set_other, eq-eqb, ne_eqb, eqb-true}
use Rattle.std.proofs.Math.Logic.{inl, inr, ⊎_elim}
use Rattle.std.proofs.lemmas.Bool.{false≢true, eqb-false}
use mir.Val.{bool_byte}
use Rattle.model.specs.Search.{any_below}
use Rattle.model.specs.Query.{kept}
use Rattle.laws.specs.Bools.{and_l, and_r, on-or-off}
use Rattle.laws.specs.Search.{any-e, none-e}
use Rattle.laws.specs.Members.{and-off}
use Rattle.laws.specs.Order.{Rel}
use Rattle.laws.specs.Select.{dropped-i}
use Rattle.laws.specs.Cases.{below_or_not}
use Rattle.laws.specs.Elimination.{Apart, Turn, Met}
use Rattle.laws.specs.Firsts.{Firsts, firsts-less}
use Rattle.laws.specs.Rounds.{rounds-more, turn_more, turn-met}
use Rattle.laws.specs.Wrote.{Wrote}
use Rattle.lanes.specs.Lit.{free, hit}
use Rattle.lanes.specs.Marks.{gone_lane, name_lane}
use Rattle.blocks.specs.Rivals.{rival}
use Rattle.blocks.specs.Alive.{Above}
use Rattle.blocks.specs.Hits.{Hits, Dark, in_block}

-- ---- one lane

one-zero : ◌≡◌ {A = ℕ} 1 0 → ⊥
one-zero e = omega arith

-- A row that is not gone and comes after row i is one that row i meets,
rival-on : (gone : List ℕ) (lo i j : ℕ) → get_or gone (lo + j) 0 ≡ 0 → i < lo + j → rival gone lo i j ≡ true
unfolding rival free
rival-on gone lo i j e l = rw (eq-eqb (get_or gone (lo + j) 0) 0 e, ne_eqb (lo + j) i (λ q. omega arith))

-- and one that it meets is not gone.
rival-free : (gone : List ℕ) (lo i j : ℕ) → rival gone lo i j ≡ true → get_or gone (lo + j) 0 ≡ 0
unfolding rival free
rival-free gone lo i j e = eqb-true (get_or gone (lo + j) 0) 0 (and_l _ _ e)

-- What the byte says of which it was made: 0, and not 0.
byte_left : (a h : Bool) → bool_byte (not a || h) ≡ 0 → (a ≡ true) × (h ≡ false)
byte_left true true e = absurd (one-zero e)
byte_left true false e = (refl, refl)
byte_left false h e = absurd (one-zero e)

byte-lost : (a h : Bool) → (bool_byte (not a || h) ≡ 0 → ⊥) → (a ≡ false) ⊎ (h ≡ true)
byte-lost true true e = inr refl
byte-lost true false e = absurd (e refl)
byte-lost false h e = inl refl

module _ (gone : List ℕ) (lo : ℕ) (live codes : List ℕ) (top j : ℕ) where
  -- A row that is not gone was not gone, and row i does not beat it.
  left : gone_lane gone lo live codes top j ≡ 0 → (get_or gone (lo + j) 0 ≡ 0) × (hit live codes top 1 j ≡ false)
  unfolding gone_lane
  left e =
      let w = byte_left (eqb (get_or gone (lo + j) 0) 0) (hit live codes top 1 j) e in
      (eqb-true (get_or gone (lo + j) 0) 0 w.0, w.1)

  -- A row that is gone was gone, or row i beats it.
  lost : (gone_lane gone lo live codes top j ≡ 0 → ⊥) → (get_or gone (lo + j) 0 ≡ 0 → ⊥) ⊎ (hit live codes top 1 j ≡ true)
  unfolding gone_lane
  lost e =
      ⊎_elim (λ f. inl (eqb-false (get_or gone (lo + j) 0) 0 f)) (λ h. inr h)
      (byte-lost (eqb (get_or gone (lo + j) 0) 0) (hit live codes top 1 j) e)

-- ---- one block

module _ (beats : Rel ℕ) (n i lo : ℕ) (gone : List ℕ) (row : i < n) (turn : Turn beats n i lo gone) where
  -- It has no row that row i is to meet.
  pub meets-none : Dark beats n i lo (rival gone lo i) → Met beats n i (lo + 64) gone false
  meets-none d =
      turn-met beats n i (lo + 64) gone
      (turn_more beats n i gone gone row (λ j l z. z) (λ j l z. inl z) lo (lo + 64) turn here)
    where
      here : (x : ℕ) → i < x → lo ≤ x → x < lo + 64 → x < n → get_or gone x 0 ≡ 0 → Apart beats i x
      here x p q r h z =
          in_block x lo (λ u. absurd (omega arith))
          (λ j u v. let f : get_or gone (lo + j) 0 ≡ 0 = rw v at z in rw v (d.apart j u (omega arith) (rival-on gone lo i j f (omega arith))))
          (λ u. absurd (omega arith))

  -- Row i meets those that are not gone, and those that it beats go.
  module _ (live codes new : List ℕ) (top : ℕ) (hits : Hits beats n i lo (rival gone lo i) live codes top)
      (wrote : Wrote 0 (gone_lane gone lo live codes top) lo 64 gone new) where
    stay : (x : ℕ) → x < n → get_or new x 0 ≡ 0 → get_or gone x 0 ≡ 0
    stay x l z =
        in_block x lo
        (λ u. sym (wrote.below x u) ∙ z)
        (λ j u v. let f : get_or new (lo + j) 0 ≡ 0 = rw v at z in
        rw v (left gone lo live codes top j (sym (wrote.made j u) ∙ f)).0)
        (λ u. sym (wrote.above x u) ∙ z)

    why : (x : ℕ) → x < n → (get_or new x 0 ≡ 0 → ⊥) → (get_or gone x 0 ≡ 0 → ⊥) ⊎ (beats i x ≡ true)
    why x l z =
        in_block x lo
        (λ u. inl (λ y. z (wrote.below x u ∙ y)))
        (λ j u v. let f : get_or new (lo + j) 0 ≡ 0 → ⊥ = rw v at z in
        rw v (⊎_elim
        (λ y. inl y)
        (λ y. inr (and_r (rival gone lo i j) _ (sym (hits.one j u (omega arith)) ∙ y)))
        (lost gone lo live codes top j (λ y. f (wrote.made j u ∙ y)))))
        (λ u. inl (λ y. z (wrote.above x u ∙ y)))

    beaten : (j : ℕ) → j < 64 → hit live codes top 2 j ≡ true → kept n beats i ≡ false
    beaten j l h =
        ⊎_elim
        (λ k. dropped-i n beats i (lo + j) k (and_r (rival gone lo i j) _ (sym (hits.two j l k) ∙ h)))
        (λ k. absurd (false≢true (sym (hits.off 2 j l k) ∙ h)))
        (below_or_not (lo + j) n)

    apart : (j : ℕ) → j < 64 → lo + j < n → i < lo + j → hit live codes top 2 j ≡ false → get_or new (lo + j) 0 ≡ 0
        → Apart beats i (lo + j)
    apart j l h later e z =
        let s = left gone lo live codes top j (sym (wrote.made j l) ∙ z) in
        let f = rival-on gone lo i j s.0 later in (
          and-off (rival gone lo i j) _ (sym (hits.one j l h) ∙ s.1) f,
          and-off (rival gone lo i j) _ (sym (hits.two j l h) ∙ e) f,
        )

    pub meets-some : {lost : Bool} → lost ≡ any_below 64 (hit live codes top 2) → Met beats n i (lo + 64) new lost
    meets-some e =
        record {
          rest = rounds-more beats n i gone new row stay why turn.rest;
          yes = λ y. let w = any-e 64 (hit live codes top 2) (sym e ∙ y) in beaten w.0 w.1 w.2;
          no = λ y x p q r z. in_block x lo
              (λ u. turn.met x p u r (stay x r z))
              (λ j u v. let f : get_or new (lo + j) 0 ≡ 0 = rw v at z in
              rw v (apart j u (omega arith) (omega arith) (none-e 64 (hit live codes top 2) (sym e ∙ y) j u) f))
              (λ u. absurd (omega arith));
        }

    -- Where a row goes in row i's round, no lower row that is not gone beats it.
    module _ (first named : List ℕ) (wrote-first : Wrote 0 (name_lane first lo live codes top i) lo 64 first named)
        (before : Firsts beats n gone first) where
      -- Lane j's row is named row i, or what it was.
      lane : (j : ℕ) → j < 64 → get_or named (lo + j) 0 ≡ cond (hit live codes top 1 j) i (get_or first (lo + j) 0)
      unfolding name_lane
      lane j l = wrote-first.made j l

      abbrev Fine : ℕ → ℕ → Type 0
      Fine j v = v < j → (beats v j ≡ true) × ((a : ℕ) → a < v → get_or new a 0 ≡ 0 → beats a j ≡ false)

      old-fine : (j : ℕ) → j < n → Fine j (get_or first j 0)
      old-fine j l h = (before.beaten j l h, λ a o z. before.lowest j l h a o (stay a (omega (arith, o, h, l)) z))

      new-fine : (j : ℕ) → j < 64 → lo + j < n → hit live codes top 1 j ≡ true → Fine (lo + j) i
      new-fine j l h e less =
          let both = sym (hits.one j l h) ∙ e in
          let here = rival-free gone lo i j (and_l (rival gone lo i j) (beats i (lo + j)) both) in (
            and_r (rival gone lo i j) (beats i (lo + j)) both,
            λ a o z. (turn.rest.apart a (lo + j) o (omega (arith, o, less)) h (stay a (omega (arith, o, row)) z) here).0,
          )

      fine : (j : ℕ) → j < n → Fine j (get_or named j 0)
      fine j l =
          in_block j lo
          (λ u. rw (wrote-first.below j u) (old-fine j l))
          (λ k u v. let h : lo + k < n = omega (arith, l, v) in
          rw v (rw (lane k u) (⊎_elim
          (λ t. rw t (new-fine k u h t))
          (λ t. rw t (old-fine (lo + k) h))
          (on-or-off (hit live codes top 1 k)))))
          (λ u. rw (wrote-first.above j u) (old-fine j l))

      pub firsts-some : Firsts beats n new named
      firsts-some =
          record {
            beaten = λ j l h. (fine j l h).0;
            lowest = λ j l h a o z. (fine j l h).1 a o z;
          }

    -- Nothing is named where no row goes.
    pub firsts-none : (first : List ℕ) → Firsts beats n gone first → Firsts beats n new first
    firsts-none first before = firsts-less beats n gone new first stay before

    -- Lanes that are no rows stay gone.
    pub above-some : Above n gone → Above n new
    above-some a =
        record {
          each = λ x p q z. in_block x lo
              (λ u. a.each x p q (sym (wrote.below x u) ∙ z))
              (λ j u v. let f : get_or new (lo + j) 0 ≡ 0 = rw v at z in
              a.each (lo + j) (omega arith) (omega arith) (left gone lo live codes top j (sym (wrote.made j u) ∙ f)).0)
              (λ u. a.each x p q (sym (wrote.above x u) ∙ z));
        }

-- A row that is beaten goes: lanes that are no rows stay gone.
pub above-set : (n i : ℕ) (gone : List ℕ) → i < n → Above n gone → Above n (set gone i 1)
above-set n i gone l a =
    record { each = λ x p q z. a.each x p q (sym (get_or-set_other gone i x 1 0 (λ e. omega arith)) ∙ z) }

pub firsts-set : (beats : Rel ℕ) (n i : ℕ) (gone first : List ℕ) → Firsts beats n gone first → i < length gone
    → Firsts beats n (set gone i 1) first
firsts-set beats n i gone first r room = firsts-less beats n gone (set gone i 1) first stay r
  where
    stay : (a : ℕ) → a < n → get_or (set gone i 1) a 0 ≡ 0 → get_or gone a 0 ≡ 0
    stay a l z =
        ⊎_elim
        (λ t. let q = eqb-true a i t in
        absurd (one-zero (sym (get_or-set_same gone i 1 0 room) ∙ rw q at z)))
        (λ t. sym (get_or-set_other gone i a 1 0 (eqb-false a i t)) ∙ z)
        (on-or-off (eqb a i))
