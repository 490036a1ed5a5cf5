-- What a query gives and writes (SPECIFICATION, "Query"), and the placings of two parts in the words of the third
-- signed sentence (SPECIFICATION, "The third promise, word by word"). Assumes nothing.
use Rattle.std.specs.Prelude.{◌≡◌, false, not, ◌&&◌, ◌||◌, List, ℕ, suc, ◌<◌, ◌≤◌, eqb, ℤ, length, get_or, Ok, Err}
use Rattle.std.proofs.Common.{◌∙◌, sym, ap}
use Rattle.model.specs.declared.Refusal.{Refusal}
use Rattle.model.specs.declared.Pair.TheVariants.{Pareto, Prior}
use Rattle.model.specs.Search.{any_below, count_below, fill}
use Rattle.model.specs.Term.{pair, term_at}
use Rattle.model.specs.Better.{better}
use Rattle.model.specs.Query.{kept, answer, LowestKept, kept_count, row_count, beats_in, query_verdict, query_reply, query_buffer}
use Rattle.model.specs.Demand.{keeps, keeps_among}
use Rattle.laws.specs.Order.{Rel, Strict}
use Rattle.laws.specs.Fill.{fill-length, fill-in, fill-out}
use Rattle.laws.specs.Answers.{answer-lowest, kept_self, count-own}
use Rattle.laws.specs.Rows.{beats-strict, kept-prior-rows, kept-pareto-rows}

-- The query refuses nothing, its buffer has an entry for each row, and its term orders the rows strictly.
pub record Asked (table : List ℕ) (columns : ℕ) (rows : List ℤ) (term group : ℕ) (before : List ℕ) : Type 0 where
  pub passed : query_verdict table columns rows term group before ≡ Ok tt
  pub long : row_count columns rows ≤ length before
  pub strict : Strict (better (term_at table term))

module _ (table : List ℕ) (columns : ℕ) (rows : List ℤ) (term group : ℕ) (before : List ℕ) where
  abbrev n : ℕ
  n = row_count columns rows

  abbrev beats : Rel ℕ
  beats = beats_in (term_at table term) columns rows group

  abbrev after : List ℕ
  after = query_buffer table columns rows term group before

  -- No refusal writes anything.
  pub refused-buffer : (why : Refusal) → query_verdict table columns rows term group before ≡ Err why
      → after ≡ before
  unfolding query_buffer
  refused-buffer why e = rw e

  module _ (asked : Asked table columns rows term group before) where
    order : Strict beats
    order = beats-strict columns rows group (term_at table term) asked.strict

    passed-buffer : after ≡ fill n (answer n beats) before
    unfolding query_buffer
    passed-buffer = rw asked.passed

    -- The reply is the kept count.
    pub passed-reply : query_reply table columns rows term group before ≡ Ok (kept_count n beats)
    unfolding query_reply
    passed-reply = rw asked.passed

    -- The buffer keeps its length,
    pub buffer-length : length after ≡ length before
    buffer-length = rw passed-buffer (fill-length (answer n beats) before n)

    -- and entries after the last row keep their contents.
    pub entry-after : (i d : ℕ) → n ≤ i → get_or after i d ≡ get_or before i d
    entry-after i d h = rw passed-buffer (fill-out (answer n beats) before n i d h)

    -- Row i's entry.
    pub entry : (i d : ℕ) → i < n → get_or after i d ≡ answer n beats i
    entry i d h = rw passed-buffer (fill-in (answer n beats) before n i d h asked.long)

    -- Keeps: the entry of row i is i exactly where row i is kept.
    pub keeps-kept : (i : ℕ) → i < n → keeps table columns rows term group before i ≡ kept n beats i
    unfolding keeps
    keeps-kept i h = rw (entry i (suc i) h) (sym (kept_self beats order n i))

    -- A dropped row names the lowest kept row of its group that is better.
    pub entry-lowest : (i d : ℕ) → i < n → kept n beats i ≡ false → LowestKept n beats i (get_or after i d)
    entry-lowest i d h k = rw (entry i d h) (answer-lowest beats order n i k)

    -- The reply is the number of rows whose entry holds their own number.
    pub reply-own : (d : ℕ)
        → query_reply table columns rows term group before ≡ Ok (count_below n (λ i. eqb (get_or after i d) i))
    reply-own d = passed-reply ∙ ap Ok (rw passed-buffer (count-own beats order n d before asked.long))

-- ---- two parts

module _ (columns : ℕ) (rows : List ℤ) (group i : ℕ) (row : i < row_count columns rows) where
  -- One placed before the other, record k of a table, keeps a row exactly when the first, record p, keeps it and the
  -- second, record q, keeps it among the rows of the set that equal it in the first's columns.
  pub prior-keeps : (placing table : List ℕ) (k p q : ℕ) (before before' : List ℕ)
      → Asked placing columns rows k group before → Asked table columns rows p group before'
      → term_at placing k ≡ pair Prior (term_at table p) (term_at table q)
      → keeps placing columns rows k group before i
      ≡ (keeps table columns rows p group before' i && keeps_among table columns rows p q group i)
  unfolding keeps_among
  prior-keeps placing table k p q before before' a b e =
      keeps-kept placing columns rows k group before a i row
      ∙ rw (e, keeps-kept table columns rows p group before' b i row)
      (kept-prior-rows columns rows group (term_at table p) (term_at table q) (row_count columns rows) i)

  -- The two ranking equally, record k of a table, keep a row exactly when at least one of the two placings keeps it, or
  -- when it is beaten under both placings but by no single row of the set under both.
  pub pareto-keeps : (equally left right table : List ℕ) (k p q : ℕ) (before before' before'' : List ℕ)
      → Asked equally columns rows k group before
      → Asked left columns rows k group before' → Asked right columns rows k group before''
      → term_at equally k ≡ pair Pareto (term_at table p) (term_at table q)
      → term_at left k ≡ pair Prior (term_at table p) (term_at table q)
      → term_at right k ≡ pair Prior (term_at table q) (term_at table p)
      → keeps equally columns rows k group before i
      ≡ ((keeps left columns rows k group before' i || keeps right columns rows k group before'' i)
      || ((not (keeps left columns rows k group before' i) && not (keeps right columns rows k group before'' i))
      && not (any_below (row_count columns rows)
      (λ j. beats_in (term_at left k) columns rows group j i && beats_in (term_at right k) columns rows group j i))))
  pareto-keeps equally left right table k p q before before' before'' a b c e f g =
      keeps-kept equally columns rows k group before a i row
      ∙ rw (keeps-kept left columns rows k group before' b i row, keeps-kept right columns rows k group before'' c i row, e, f, g)
      (kept-pareto-rows columns rows group (term_at table p) (term_at table q) (row_count columns rows) i)
