-- What the check carries goes on from a record to the next: its parts are used, and it is a term where its kind says so.
-- Assumes nothing.
use mathlib.Core.Path.{◌≡◌, refl, sym, ◌∙◌}
use mathlib.Core.Bool.{Bool, true, false, cond, ◌&&◌, ◌||◌, or-false, or_assoc}
use mathlib.Core.List.{List, [], ◌∷◌}
use Prim.Native.Nat.{ℕ, suc, ◌+◌, ◌<◌}
use native.Mathlib.Omega.{arith}
use native.Mathlib.Numerals.{add-one}
use lib.Dec.{eqb, ltb}
use lib.ListN.{length, get_or, set, replicate, get_or-replicate, length-set}
use lib.Seq.{get_or-set_same, get_or-set_other}
use borrow.Author.Tests.{eqb-true, eqb-false, ltb-true, lt-ltb, le-ltb}
use Rattle.model.specs.Search.{any_below, any_in}
use Rattle.model.specs.Record.{record_at, is_term, parts_of, nearest_term}
use Rattle.model.specs.Check.{is_part}
use Rattle.laws.specs.Bools.{same_test}
use Rattle.table.specs.Carried.{TermsBelow, UsedBelow, Carried}

-- Before the first record there is no term and no part.
pub carried_none : (table : List ℕ) → Carried table 0 0 (replicate 256 false) (replicate 256 false)
unfolding nearest_term is_part any_below
carried_none table =
    record {
      nearest = refl;
      terms_below = λ j h. get_or-replicate 256 j false false h ∙ rw (le-ltb j 0 (omega arith));
      used_below = λ j h. get_or-replicate 256 j false false h;
    }

get_set : (a : List Bool) (i j : ℕ) (x : Bool) → i < length a → get_or (set a i x) j false ≡ cond (eqb j i) x (get_or a j false)
get_set a i j x l = go (eqb j i) refl
  where
    go : (b : Bool) → eqb j i ≡ b → get_or (set a i x) j false ≡ cond b x (get_or a j false)
    go true e = rw (eqb-true j i e) (get_or-set_same a i x false l)
    go false e = get_or-set_other a i j x false (eqb-false j i e)

-- A part is marked, and then another.
marked-one : (used : List Bool) (p j : ℕ) → p < length used → get_or (set used p true) j false ≡ (get_or used j false || eqb j p)
marked-one used p j l = get_set used p j true l ∙ go (eqb j p) (get_or used j false)
  where
    go : (b x : Bool) → cond b true x ≡ (x || b)
    go true true = refl
    go true false = refl
    go false x = sym (or-false x)

marked-two : (used : List Bool) (p q j : ℕ) → p < length used → q < length used
    → get_or (set (set used p true) q true) j false ≡ (get_or used j false || (eqb j p || eqb j q))
marked-two used p q j l m =
    marked-one (set used p true) q j (omega (arith, length-set used p true))
    ∙ rw (marked-one used p j l) (or_assoc (get_or used j false) (eqb j p) (eqb j q))

module _ (table : List ℕ) (k near : ℕ) (terms used : List Bool) (before : Carried table k near terms used)
    (few : k < 128) (terms-long : length terms ≡ 256) (used-long : length used ≡ 256) where
  below_more : (j : ℕ) → eqb j k ≡ false → ltb j (suc k) ≡ ltb j k
  below_more j e =
      same_test (ltb j (suc k)) (ltb j k)
      (λ l. let h = ltb-true j (suc k) l in let n = eqb-false j k e in lt-ltb j k (omega arith))
      (λ l. let h = ltb-true j k l in lt-ltb j (suc k) (omega arith))

  -- After record k: it is a term, or not.
  term_at : (x : Bool) → is_term (record_at table k) ≡ x → (j : ℕ) → j < 256
      → cond (eqb j k) x (get_or terms j false) ≡ (ltb j (suc k) && is_term (record_at table j))
  term_at x e j h = go (eqb j k) refl
    where
      go : (b : Bool) → eqb j k ≡ b → cond b x (get_or terms j false) ≡ (ltb j (suc k) && is_term (record_at table j))
      go true q = rw (eqb-true j k q, lt-ltb k (suc k) (omega arith), e)
      go false q = before.terms_below j h ∙ rw (below_more j q)

  pub term-more : is_term (record_at table k) ≡ true → TermsBelow table (k + 1) (set terms k true) × (k ≡ nearest_term table (k + 1))
  unfolding nearest_term
  term-more e = (λ j h. rw add-one (get_set terms k j true (omega (arith, terms-long)) ∙ term_at true e j h), rw (add-one, e))

  pub term-same : is_term (record_at table k) ≡ false → TermsBelow table (k + 1) terms × (near ≡ nearest_term table (k + 1))
  unfolding nearest_term
  term-same e = (λ j h. rw add-one (same j (eqb j k) refl ∙ term_at false e j h), rw (add-one, e) before.nearest)
    where
      same : (j : ℕ) (b : Bool) → eqb j k ≡ b → get_or terms j false ≡ cond b false (get_or terms j false)
      same j true q = rw (eqb-true j k q) (before.terms_below k (omega arith) ∙ rw (le-ltb k k (omega arith)))
      same j false q = refl

  -- It has two parts, one or none, which are now used.
  used-more : (after : List Bool)
      → ((j : ℕ) → j < 256 → get_or after j false ≡ (get_or used j false || any_in (parts_of (record_at table k)) (eqb j)))
      → UsedBelow table (k + 1) after
  unfolding is_part any_below
  used-more after marked j h = rw add-one (marked j h ∙ rw (before.used_below j h))

  pub used-two : (p q : ℕ) → p < 256 → q < 256 → p ∷ q ∷ [] ≡ parts_of (record_at table k)
      → UsedBelow table (k + 1) (set (set used p true) q true)
  unfolding any_in
  used-two p q l m e =
      used-more _ (λ j h. rw (← e, or-false (eqb j q)) (marked-two used p q j (omega (arith, used-long)) (omega (arith, used-long))))

  pub used-one : (p : ℕ) → p < 256 → p ∷ [] ≡ parts_of (record_at table k) → UsedBelow table (k + 1) (set used p true)
  unfolding any_in
  used-one p l e = used-more _ (λ j h. rw (← e, or-false (eqb j p)) (marked-one used p j (omega (arith, used-long))))

  pub used-none : [] ≡ parts_of (record_at table k) → UsedBelow table (k + 1) used
  unfolding any_in
  used-none e = used-more used (λ j h. rw (← e) (sym (or-false (get_or used j false))))
