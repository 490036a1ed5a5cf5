-- A table in which a compound of two parts was given another kind, and its parts as they stood or exchanged
-- (SPECIFICATION, "The third promise, word by word"): what every record keeps. Assumes nothing.
use Rattle.std.specs.Prelude.{◌≡◌, ◌⊎◌, ◌≢◌, Bool, cond, ◌||◌, List, eqb, length}
use Rattle.std.proofs.Math.Path.{refl}
use Rattle.std.proofs.Common.{sym, ◌∙◌, ap, ⊎_elim, arith, eqb-true}
use Rattle.std.proofs.Math.Bool.{true, false}
use Prim.Native.Nat.{ℕ, zero, suc}
use Rattle.std.proofs.lemmas.Nat.{or_comm}
use Rattle.std.proofs.lemmas.Bool.{eqb-false}
use Rattle.model.specs.declared.{Record.Record, Value.Value, Pair.Pair, CompoundTerm.CompoundTerm}
use Rattle.model.specs.declared.Pair.TheVariants.{Pareto, Prior, Both}
use Rattle.model.specs.Search.{any_in}
use Rattle.model.specs.Record.{record_count, record_at, kind_at, s_at, u_at, v_at, is_term, parts_of, roles_of, value_in}
use Rattle.model.specs.Record.{nearest_term, values_of}
use Rattle.model.specs.Term.{Term, term_of, terms_below, term_among, term_at, columns_of}
use Rattle.model.specs.Check.{is_part, earlier_values}
use Rattle.laws.specs.Bools.{on-or-off}
use Rattle.laws.specs.Search.{any-ext}
use Rattle.laws.specs.Terms.{term-columns}
use Rattle.laws.specs.Records.{kind_number, kind-of}
use Rattle.laws.specs.Agree.{SameAt, same-record, nearest-agree, values_agree}

-- Table b is table a with another compound in record k, of the same parts in this order or the other.
pub record Replaced (a b : List ℕ) (k : ℕ) (op op' : Pair) (p q p' q' : ℕ) : Type 0 where
  pub size : length a ≡ length b
  pub other : (i : ℕ) → i ≢ k → SameAt a b i
  pub s : s_at a k ≡ s_at b k
  pub u : u_at a k ≡ u_at b k
  pub v : v_at a k ≡ v_at b k
  pub was : record_at a k ≡ Record.Compound (CompoundTerm.Joined op p q)
  pub now : record_at b k ≡ Record.Compound (CompoundTerm.Joined op' p' q')
  pub ends : ((p' ≡ p) × (q' ≡ q)) ⊎ ((p' ≡ q) × (q' ≡ p))

-- The kinds 16, 17 and 18 are none of 4, 7 and 8.
pub pair-kind : (table : List ℕ) (k : ℕ) (op : Pair) (p q : ℕ)
    → record_at table k ≡ Record.Compound (CompoundTerm.Joined op p q)
    → (eqb (kind_at table k) 4 ≡ false) × ((eqb (kind_at table k) 7 || eqb (kind_at table k) 8) ≡ false)
unfolding kind_number
pair-kind table k Pareto p q e =
    rw (kind-of table k (Record.Compound (CompoundTerm.Joined Pareto p q)) e refl) (refl, refl)
pair-kind table k Prior p q e =
    rw (kind-of table k (Record.Compound (CompoundTerm.Joined Prior p q)) e refl) (refl, refl)
pair-kind table k Both p q e = rw (kind-of table k (Record.Compound (CompoundTerm.Joined Both p q)) e refl) (refl, refl)

module _ {a b : List ℕ} {k : ℕ} {op op' : Pair} {p q p' q' : ℕ} (c : Replaced a b k op op' p q p' q') where
  -- What holds of record k and of all others holds of all.
  pub at-k : (P : ℕ → Type 0) → P k → ((i : ℕ) → i ≢ k → P i) → (i : ℕ) → P i
  at-k P here there i = ⊎_elim (λ e. rw (eqb-true i k e) here) (λ e. there i (eqb-false i k e)) (on-or-off (eqb i k))

  -- The other records stand for the same.
  pub record-other : (i : ℕ) → i ≢ k → record_at a i ≡ record_at b i
  record-other i h = same-record a b i (c.other i h)

  -- ---- what every record keeps

  -- Term records stay term records,
  pub flag : (i : ℕ) → is_term (record_at a i) ≡ is_term (record_at b i)
  flag =
      at-k (λ i. is_term (record_at a i) ≡ is_term (record_at b i)) (rw (c.was, c.now))
      (λ i h. ap is_term (record-other i h))

  -- values stay,
  pub value : (i : ℕ) → value_in (record_at a i) ≡ value_in (record_at b i)
  value =
      at-k (λ i. value_in (record_at a i) ≡ value_in (record_at b i)) (rw (c.was, c.now))
      (λ i h. ap value_in (record-other i h))

  -- the roles that a record takes stay,
  pub roles : (i : ℕ) → roles_of (record_at a i) ≡ roles_of (record_at b i)
  roles =
      at-k (λ i. roles_of (record_at a i) ≡ roles_of (record_at b i)) (rw (c.was, c.now))
      (λ i h. ap roles_of (record-other i h))

  -- and so does being POS/NEG or POS/POS.
  pub one-role : (i : ℕ) → (eqb (kind_at a i) 7 || eqb (kind_at a i) 8) ≡ (eqb (kind_at b i) 7 || eqb (kind_at b i) 8)
  one-role =
      at-k (λ i. (eqb (kind_at a i) 7 || eqb (kind_at a i) 8) ≡ (eqb (kind_at b i) 7 || eqb (kind_at b i) 8))
      ((pair-kind a k op p q c.was).1 ∙ sym (pair-kind b k op' p' q' c.now).1)
      (λ i h. rw (c.other i h).kind)

  -- The nearest term before each record is the same,
  pub nearest-same : (i : ℕ) → nearest_term a i ≡ nearest_term b i
  nearest-same i = nearest-agree a b i (λ j h. flag j) i (omega arith)

  -- the values of each term are,
  pub values_same : (t m : ℕ) → values_of a t m ≡ values_of b t m
  values_same t m = values_agree a b m (λ j h. flag j) (λ j h. value j) t m (omega arith)

  -- the earlier values of each run are,
  pub earlier-same : (i : ℕ) → earlier_values a i ≡ earlier_values b i
  unfolding earlier_values
  earlier-same i = rw (nearest-same i, values_same (nearest_term b i) i)

  -- and the number of records is.
  pub count_same : record_count a ≡ record_count b
  unfolding record_count
  count_same = rw c.size

  -- A test of both parts, in either order.
  both-parts : (test : ℕ → Bool) → (test p || (test q || false)) ≡ (test p' || (test q' || false))
  both-parts test = ⊎_elim (λ e. rw (e.0, e.1)) (λ e. rw (e.0, e.1) (turn (test p) (test q))) c.ends
    where
      turn : (x y : Bool) → (x || (y || false)) ≡ (y || (x || false))
      turn true true = refl
      turn true false = refl
      turn false true = refl
      turn false false = refl

  -- A test of the parts of any record comes to the same,
  pub parts_same : (test : ℕ → Bool) (i : ℕ) → any_in (parts_of (record_at a i)) test ≡ any_in (parts_of (record_at b i)) test
  unfolding any_in
  parts_same test =
      at-k (λ i. any_in (parts_of (record_at a i)) test ≡ any_in (parts_of (record_at b i)) test)
      (rw (c.was, c.now) (both-parts test))
      (λ i h. rw (record-other i h))

  -- and so each record is a part in both tables or in neither.
  pub part_same : (n j : ℕ) → is_part a n j ≡ is_part b n j
  unfolding is_part
  part_same n j =
      any-ext n (λ i. any_in (parts_of (record_at a i)) (eqb j)) (λ i. any_in (parts_of (record_at b i)) (eqb j))
      (λ i h. parts_same (eqb j) i)

  -- ---- columns

  columns-k : (values values' : List Value) (f g : ℕ → Term) → ((j : ℕ) → columns_of (f j) ≡ columns_of (g j))
      → columns_of (term_of (record_at a k) values f) ≡ columns_of (term_of (record_at b k) values' g)
  unfolding columns_of
  columns-k values values' f g h =
      rw (c.was, c.now)
      (⊎_elim (λ e. rw (e.0, e.1, h p, h q))
      (λ e. rw (e.0, e.1, h p, h q) (or_comm (columns_of (g p)) (columns_of (g q)))) c.ends)

  same-columns : (values values' : List Value) (f g : ℕ → Term) → ((j : ℕ) → columns_of (f j) ≡ columns_of (g j)) → (i : ℕ)
      → columns_of (term_of (record_at a i) values f) ≡ columns_of (term_of (record_at b i) values' g)
  same-columns values values' f g h =
      at-k (λ i. columns_of (term_of (record_at a i) values f) ≡ columns_of (term_of (record_at b i) values' g))
      (columns-k values values' f g h)
      (λ i n. rw (record-other i n) (term-columns (record_at b i) values values' f g h))

  columns-below : (n m j : ℕ) → columns_of (terms_below a n m j) ≡ columns_of (terms_below b n m j)
  unfolding terms_below
  columns-below n zero j = refl
  columns-below n (suc m) j = go (columns-below n m) (eqb j m)
    where
      go : ((i : ℕ) → columns_of (terms_below a n m i) ≡ columns_of (terms_below b n m i)) → (t : Bool)
          → columns_of (cond t (term_of (record_at a m) (values_of a m n) (terms_below a n m)) (terms_below a n m j))
          ≡ columns_of (cond t (term_of (record_at b m) (values_of b m n) (terms_below b n m)) (terms_below b n m j))
      go h true = same-columns (values_of a m n) (values_of b m n) (terms_below a n m) (terms_below b n m) h m
      go h false = h j

  -- Every record reads the same columns, as far as the first n records tell,
  pub columns-among-same : (n j : ℕ) → columns_of (term_among a n j) ≡ columns_of (term_among b n j)
  unfolding term_among
  columns-among-same n j = columns-below n (suc j) j

  -- and as the whole table tells.
  pub columns-same : (j : ℕ) → columns_of (term_at a j) ≡ columns_of (term_at b j)
  unfolding term_at
  columns-same j = rw (← count_same) (columns-among-same (record_count a) j)
