-- The masks of the records below m as a loop fills them in, and that they are the columns of the terms. Assumes nothing.
use mathlib.Core.Path.{◌≡◌, refl, ◌∙◌}
use mathlib.Core.Bool.{Bool, true, false, cond}
use mathlib.Core.List.{List}
use Prim.Native.Nat.{ℕ, zero, suc, ◌+◌, ◌*◌, ◌<◌}
use native.Mathlib.Numerals.{add-one}
use lib.Dec.{eqb}
use lib.IntN.{ℤ}
use lib.ListN.{length, get_or, set, replicate, get_or-replicate}
use lib.Seq.{get_or-set_same, get_or-set_other}
use borrow.Author.Tests.{eqb-true, eqb-false}
use Rattle.model.specs.declared.{Record.Record, Value.Value}
use Rattle.model.specs.declared.CompoundTerm.TheVariants.{Joined, Dual}
use Rattle.model.specs.declared.Record.TheVariants.{Base, Compound, Unknown}
use Rattle.model.specs.Record.{kind_at, p_at, q_at, u_at, v_at, record_of, record_at, values_of}
use Rattle.model.specs.Check.{fails_column}
use Rattle.model.specs.Term.{Term, term_of, terms_below, columns_of}
use Rattle.laws.specs.Records.{Bytes}
use Rattle.terms.specs.Columns.{unnumbered_at, mask_of, mask_below}

pub masks-none : (table : List ℕ) (k : ℕ) → k < 256 → get_or (replicate 256 1) k 0 ≡ mask_below table 0 k
unfolding mask_below
masks-none table k h = get_or-replicate 256 k 1 0 h

mask-cond : (b : Bool) (x y : Record) (part : ℕ → ℕ) → mask_of (cond b x y) part ≡ cond b (mask_of x part) (mask_of y part)
mask-cond true x y part = refl
mask-cond false x y part = refl

column-cond : (columns : ℕ) (b : Bool) (x y : Record)
    → fails_column columns (cond b x y) ≡ cond b (fails_column columns x) (fails_column columns y)
column-cond columns true x y = refl
column-cond columns false x y = refl

-- Its numbers have no say in a record's column and mask.
pub column-unnumbered : (table : List ℕ) (columns k : ℕ) → fails_column columns (unnumbered_at table k) ≡ fails_column columns (record_at table k)
unfolding unnumbered_at record_at record_of
column-unnumbered table columns k = simp column-cond

pub mask-unnumbered : (table : List ℕ) (k : ℕ) (part : ℕ → ℕ) → mask_of (unnumbered_at table k) part ≡ mask_of (record_at table k) part
unfolding unnumbered_at record_at record_of
mask-unnumbered table k part = simp mask-cond

mask-parts : (kind p q : ℕ) (u v : ℤ) (f g : ℕ → ℕ) → f p ≡ g p → f q ≡ g q
    → mask_of (record_of kind p q u v) f ≡ mask_of (record_of kind p q u v) g
unfolding record_of
mask-parts kind p q u v f g hp hq = simp (mask-cond, hp, hq)

-- A record's parts are bytes, so that masks which agree below 256 give it the same mask.
pub mask-same : (table : List ℕ) → Bytes table → (i : ℕ) (f g : ℕ → ℕ) → ((k : ℕ) → k < 256 → f k ≡ g k)
    → mask_of (record_at table i) f ≡ mask_of (record_at table i) g
unfolding record_at p_at q_at
mask-same table bytes i f g same =
    mask-parts (kind_at table i) (p_at table i) (q_at table i) (u_at table i) (v_at table i) f g
    (same (p_at table i) (bytes (12 * i + 1))) (same (q_at table i) (bytes (12 * i + 2)))

pub masks-more : (table a : List ℕ) (i x : ℕ) → i < length a → ((k : ℕ) → k < 256 → get_or a k 0 ≡ mask_below table i k)
    → x ≡ mask_of (record_at table i) (λ k. get_or a k 0)
    → mask_of (record_at table i) (λ k. get_or a k 0) ≡ mask_of (record_at table i) (mask_below table i)
    → (k : ℕ) → k < 256 → get_or (set a i x) k 0 ≡ mask_below table (i + 1) k
unfolding mask_below
masks-more table a i x l f e same k h = rw add-one (go (eqb k i) refl)
  where
    go : (b : Bool) → eqb k i ≡ b → get_or (set a i x) k 0 ≡ mask_below table (suc i) k
    go true q = rw (q, eqb-true k i q, get_or-set_same a i x 0 l) (e ∙ same)
    go false q = rw (q, get_or-set_other a i k x 0 (eqb-false k i q)) (f k h)

mask-term : (r : Record) (values : List Value) (part : ℕ → Term) → mask_of r (λ k. columns_of (part k)) ≡ columns_of (term_of r values part)
unfolding columns_of
mask-term (Record.Value a) values part = refl
mask-term (Base column b) values part = refl
mask-term (Compound (Joined op p q)) values part = refl
mask-term (Compound (Dual p)) values part = refl
mask-term Unknown values part = refl

mask-ext : (r : Record) (f g : ℕ → ℕ) → ((k : ℕ) → f k ≡ g k) → mask_of r f ≡ mask_of r g
mask-ext (Record.Value a) f g e = refl
mask-ext (Base column b) f g e = refl
mask-ext (Compound (Joined op p q)) f g e = rw (e p, e q)
mask-ext (Compound (Dual p)) f g e = e p
mask-ext Unknown f g e = refl

-- The masks are the columns of the terms.
pub masks-columns : (table : List ℕ) (n m k : ℕ) → mask_below table m k ≡ columns_of (terms_below table n m k)
unfolding mask_below terms_below columns_of
masks-columns table n zero k = refl
masks-columns table n (suc m) k = go (masks-columns table n m) (eqb k m)
  where
    go : ((k : ℕ) → mask_below table m k ≡ columns_of (terms_below table n m k)) → (b : Bool)
        → cond b (mask_of (record_at table m) (mask_below table m)) (mask_below table m k)
        ≡ columns_of (cond b (term_of (record_at table m) (values_of table m n) (terms_below table n m)) (terms_below table n m k))
    go below true =
        mask-ext (record_at table m) (mask_below table m) (λ k. columns_of (terms_below table n m k)) below
        ∙ mask-term (record_at table m) (values_of table m n) (terms_below table n m)
    go below false = below k
