-- Where Query refuses nothing, the entry of every dropped row is its witness; and tests that say so. Assumes nothing.
use mathlib.Core.Path.{◌≡◌, refl, sym, ◌∙◌, ap}
use mathlib.Core.Logic.{⊎_elim}
use mathlib.Core.Bool.{Bool, true, not, ◌&&◌}
use mathlib.Core.List.{List}
use Prim.Native.Nat.{ℕ, suc, ◌/◌, ◌%◌, ◌<◌}
use native.Mathlib.Nat.{div-add-mod'}
use native.Mathlib.Omega.{arith}
use lib.Dec.{ltb, eqb}
use lib.IntN.{ℤ}
use lib.ListN.{length, get_or}
use borrow.Author.Tests.{ltb-false, lt-ltb, eqb-true, eq-eqb, not-false}
use Rattle.std.specs.Prelude.{Ok, Err}
use Rattle.model.specs.Words.{Verdict, QueryReply}
use Rattle.model.specs.declared.Refusal.{Refusal}
use Rattle.model.specs.Term.{term_at}
use Rattle.model.specs.Check.{by_verdict}
use Rattle.model.specs.Compare.{outcome, compare_reply}
use Rattle.model.specs.Query.{kept_count, row_count, row_at, beats_in, fails_rows, query_verdict, query_reply, query_buffer}
use Rattle.model.specs.Demand.{keeps}
use Rattle.laws.specs.Bools.{and_i, or_l, or_r, not-both, on-or-off}
use Rattle.laws.specs.Members.{or_off}
use Rattle.laws.specs.Search.{none-i}
use Rattle.laws.specs.Masks.{equal_in-cells}
use Rattle.laws.proofs.Outcome.{is-first}
use Rattle.laws.specs.Query.{passed-reply, buffer-length, entry}
use Rattle.laws.specs.AcceptedTable.{accepted-table}
use Rattle.laws.specs.Taken.{Taken, taken-gives}
use Rattle.laws.proofs.Taken.{taken-asked, taken-sound}
use Rattle.laws.proofs.Replied.{compared-reply}
use Rattle.rows.specs.Places.{row-length}
use Rattle.demands.specs.Given.{number_given}
use Rattle.demands.proofs.Numbered.{is_one}
use Rattle.theorems.specs.Asked.{Asked, Long, BeatenBy}
use Rattle.theorems.proofs.Dropped.{query-takes, dropped-beaten-by-kept}
use Rattle.demands.specs.Witness.{Answers, is_witness, witnessed, all_witnessed, where_kept, query_witnessed, beaten_by_kept}

-- A reply refuses or it does not.
not-refused : (r : QueryReply) (why : Refusal) (total : ℕ) → r ≡ Err why → r ≡ Ok total → ⊥
not-refused r why total e f = let z : ◌≡◌ {A = ℕ} 0 1 = cc in omega arith

-- A reply that refuses nothing: Query took what it was given.
replied-taken : (table : List ℕ) (columns : ℕ) (rows : List ℤ) (term group : ℕ) (before : List ℕ) (total : ℕ)
    → query_reply table columns rows term group before ≡ Ok total
    → Taken table columns rows term group before
unfolding query_reply
replied-taken table columns rows term group before total e =
    taken-gives table columns rows term group before (go (query_verdict table columns rows term group before) e)
  where
    go : (v : Verdict)
        → by_verdict v Err
        (Ok (kept_count (row_count columns rows) (beats_in (term_at table term) columns rows group)))
        ≡ Ok total
        → v ≡ Ok tt
    go (Ok u) e = refl
    go (Err why) e = absurd (not-refused (Err why) why total refl e)

module _ (table : List ℕ) (columns : ℕ) (rows : List ℤ) (term group : ℕ) (before : List ℕ)
    (taken : Taken table columns rows term group before) where
  -- Its rows, and an entry for each.
  answers_of : Answers columns rows (row_count columns rows) (query_buffer table columns rows term group before)
  unfolding fails_rows row_count
  answers_of =
      let t = accepted-table table columns taken.of_term.is_accepted in
      let f = or_off (not (eqb (length rows % columns) 0)) (ltb 1024 (length rows / columns)) taken.rows_fit in
      let whole = eqb-true (length rows % columns) 0 (not-false (eqb (length rows % columns) 0) f.0) in
      record {
        some = t.some_column;
        few = t.few_columns;
        run = sym (div-add-mod' (length rows) columns) ∙ rw whole (omega arith);
        most = ltb-false 1024 (length rows / columns) f.1;
        long = rw (buffer-length table columns rows term group before
            (taken-asked table columns rows term group before taken)) taken.long;
      }

-- What an engine leaves in its buffer where it refuses nothing.
pub replied-answers : (table : List ℕ) (columns : ℕ) (rows : List ℤ) (term group : ℕ) (before after : List ℕ) (x : QueryReply)
    → x ≡ query_reply table columns rows term group before → after ≡ query_buffer table columns rows term group before
    → (total : ℕ) → x ≡ Ok total → Answers columns rows (row_count columns rows) after
replied-answers table columns rows term group before after x e f total k =
    rw f
    (answers_of table columns rows term group before
    (replied-taken table columns rows term group before total (sym e ∙ k)))

module _ (table : List ℕ) (columns : ℕ) (rows : List ℤ) (term group : ℕ) (asked : Asked table columns rows term group)
    (before : List ℕ) (long : Long columns rows before) where
  abbrev n : ℕ
  n = row_count columns rows

  abbrev after : List ℕ
  after = query_buffer table columns rows term group before

  took : Taken table columns rows term group before
  took = query-takes table columns rows term group asked before long

  -- A kept row's entry is its own number.
  own : (i : ℕ) → i < n → keeps table columns rows term group before i ≡ true → get_or after i 0 ≡ i
  unfolding keeps
  own i h k =
      let a = taken-asked table columns rows term group before took in
      entry table columns rows term group before a i 0 h
      ∙ sym (entry table columns rows term group before a i (suc i) h)
      ∙ eqb-true (get_or after i (suc i)) i k

  -- A row that beats another is first better in Compare's reply.
  first-better : (i j : ℕ) → i < n → BeatenBy table columns rows term group i j
      → eqb (number_given (compare_reply table columns term (row_at columns rows j) (row_at columns rows i))) 1 ≡ true
  first-better i j h b =
      let x = row_at columns rows i in
      let y = row_at columns rows j in
      let t = term_at table term in
      let s = taken-sound table columns term took.of_term in
      let a = answers_of table columns rows term group before took in
      rw (
        compared-reply table columns term took.of_term y x (row-length columns rows n a.run j b.is_row)
            (row-length columns rows n a.run i h),
        is_one (outcome t y x),
        ← (is-first t s.0 s.1 y x),
      )
      b.is_better

  is-witness : (i j : ℕ) → i < n → BeatenBy table columns rows term group i j
      → keeps table columns rows term group before j ≡ true
      → is_witness table columns rows term group after i j ≡ true
  unfolding is_witness
  is-witness i j h b k =
      and_i
      (and_i (eq-eqb (get_or after j 0) j (own j b.is_row k))
      ((equal_in-cells group (row_at columns rows i) (row_at columns rows j)).1 b.same_set))
      (first-better i j h b)

  row-witnessed : (i : ℕ) → i < n → witnessed table columns rows n term group after i ≡ true
  unfolding witnessed
  row-witnessed i h =
      ⊎_elim
      (λ k. or_l _ (eq-eqb (get_or after i 0) i (own i h k)))
      (λ d. let w = dropped-beaten-by-kept table columns rows term group asked before long i h d in
      or_r (eqb (get_or after i 0) i)
      (rw w.3 (and_i (lt-ltb w.0 n w.1.is_row) (is-witness i w.0 h w.1 w.2))))
      (on-or-off (keeps table columns rows term group before i))

  -- Every row is kept or has its witness.
  all-witnessed : all_witnessed table columns rows n term group after ≡ true
  unfolding all_witnessed
  all-witnessed =
      ap not
      (none-i n (λ i. not (witnessed table columns rows n term group after i)) (λ i h e. not-both e (row-witnessed i h)))

  -- So says the test of a query,
  query-witnessed : query_witnessed table columns rows term group before ≡ true
  unfolding query_witnessed
  query-witnessed =
      rw (passed-reply table columns rows term group before (taken-asked table columns rows term group before took))
      all-witnessed

  -- whose buffer another may use again.
  still-long : Long columns rows after
  still-long = rw (buffer-length table columns rows term group before (taken-asked table columns rows term group before took)) long

-- What both tests together say, where one engine replies x and leaves `middle` and the other then replies y and leaves `after`.
pub both-witnessed : (table : List ℕ) (columns : ℕ) (rows : List ℤ) (term group : ℕ) (before middle after : List ℕ)
    (x y : QueryReply) (r s : Bool)
    → x ≡ query_reply table columns rows term group before → middle ≡ query_buffer table columns rows term group before
    → r ≡ where_kept x (all_witnessed table columns rows (row_count columns rows) term group middle)
    → y ≡ query_reply table columns rows term group middle → after ≡ query_buffer table columns rows term group middle
    → s ≡ where_kept y (all_witnessed table columns rows (row_count columns rows) term group after)
    → ((r && s) ≡ beaten_by_kept table columns rows term group before)
    × (after ≡ query_buffer table columns rows term group (query_buffer table columns rows term group before))
    × (Asked table columns rows term group → Long columns rows before → (r && s) ≡ true)
unfolding beaten_by_kept query_witnessed
both-witnessed table columns rows term group before middle after x y r s ex em er ey ea es =
    let said : (r && s) ≡ beaten_by_kept table columns rows term group before = rw (er, es, ex, ey, ea, em) in (
      said,
      rw (ea, em),
      λ asked long. said
          ∙ and_i (query-witnessed table columns rows term group asked before long)
          (query-witnessed table columns rows term group asked (query_buffer table columns rows term group before)
          (still-long table columns rows term group asked before long)),
    )
