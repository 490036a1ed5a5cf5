-- The rows that are left, queried again: what the calls find is what the definitions say. Assumes nothing.
use mathlib.Core.Path.{◌≡◌, refl, sym, ◌∙◌, ap}
use mathlib.Core.Logic.{⊎_elim}
use mathlib.Core.Bool.{Bool, false, not, ◌&&◌}
use mathlib.Core.List.{List}
use Prim.Native.Nat.{ℕ, ◌*◌, ◌<◌, ◌≤◌}
use native.Mathlib.Nat.{mul-le-mul}
use native.Mathlib.Omega.{arith}
use lib.Dec.{ltb, eqb}
use lib.IntN.{ℤ}
use lib.ListN.{length, get_or, take}
use lib.Seq.{get_or-take}
use borrow.Author.Tests.{ltb-true}
use Rattle.std.specs.Prelude.{Ok, Err}
use Rattle.model.specs.Words.{QueryReply}
use Rattle.model.specs.declared.Refusal.{Refusal}
use Rattle.model.specs.Search.{list_below}
use Rattle.model.specs.Query.{row_count, query_reply, query_buffer}
use Rattle.model.specs.Leaving.{left_rows, old_number}
use Rattle.laws.specs.Bools.{on-or-off}
use Rattle.laws.specs.Search.{any-ext, count-ext, count-bound}
use Rattle.laws.specs.Renumbered.{list_ext, old-is}
use Rattle.laws.specs.LeftRows.{left-ext, rows_of, left-rows-length}
use Rattle.demands.specs.Witness.{Answers, by_reply}
use Rattle.demands.specs.Leaving.{same_entry, same_by_number, same_answers, queried_twice, same_twice}
use Rattle.demands.specs.Gathered.{Gathered, OldNumbers}
use Rattle.demands.proofs.Witnesses.{replied-answers}

-- ---- by old numbers

module _ (old list : List ℕ) (m : ℕ) (agree : (i : ℕ) → i < m → get_or old i 0 ≡ get_or list i 0)
    (entries again : List ℕ) where
  -- Only the first m old numbers are read,
  entry-ext : (i : ℕ) → i < m → same_entry old m entries again i ≡ same_entry list m entries again i
  unfolding same_entry
  entry-ext i h =
      let e = get_or again i 0 in
      ⊎_elim (λ t. rw (t, agree e (ltb-true e m t), agree i h)) (λ t. rw t) (on-or-off (ltb e m))

  -- for all entries too.
  by-number-ext : same_by_number old m entries again ≡ same_by_number list m entries again
  unfolding same_by_number
  by-number-ext =
      ap not
      (any-ext m (λ i. not (same_entry old m entries again i)) (λ i. not (same_entry list m entries again i))
      (λ i h. ap not (entry-ext i h)))

-- ---- the rows that were gathered

module _ (columns : ℕ) (rows : List ℤ) (stays : ℕ → Bool) (m : ℕ) (left : List ℤ) (old entries : List ℕ)
    (a : Answers columns rows (row_count columns rows) entries)
    (g : Gathered columns rows stays (row_count columns rows) m left old) where
  abbrev n : ℕ
  n = row_count columns rows

  few-left : m ≤ 1024
  few-left = omega (arith, g.count, count-bound n stays, a.most)

  -- Their cells are those of the rows that are left,
  cells_are : take (m * columns) left ≡ left_rows columns rows stays
  unfolding left_rows
  cells_are = g.cells

  -- as many as their rows have,
  pub cells-length : length (take (m * columns) left) ≡ m * columns
  cells-length = rw (cells_are, g.count) (left-rows-length columns a.some rows stays)

  -- up to 8,192.
  pub cells-few : m * columns ≤ 8192
  cells-few = mul-le-mul few-left a.few

  numbers-are : (i : ℕ) → i < m → get_or old i 0 ≡ get_or (list_below n stays) i 0
  numbers-are i h = sym (get_or-take m old i 0 h) ∙ ap (λ (l : List ℕ). get_or l i 0) g.numbers

  -- A query over them replies x and leaves `after` in the buffer.
  module _ (table : List ℕ) (term group : ℕ) (before after : List ℕ) (x : QueryReply)
      (ex : x ≡ query_reply table columns (take (m * columns) left) term group before)
      (ea : after ≡ query_buffer table columns (take (m * columns) left) term group before) where
    -- Where it refuses nothing there is an entry for each of them, and one for each of their old numbers.
    pub numbers-within : (kept : ℕ) → x ≡ Ok kept → OldNumbers old m entries after
    unfolding old_number
    numbers-within kept k =
        let b = replied-answers table columns (take (m * columns) left) term group before after x ex ea kept k in
        let c = rows_of columns a.some (take (m * columns) left) m cells-length in
        record {
          most = few-left;
          long = rw c at b.long;
          within = λ i h. rw (numbers-are i h)
              (omega (arith, (old-is n stays i (omega (arith, h, g.count))).row, a.long));
        }

    -- What is found of its reply and its entries.
    once : (total : ℕ) {r : Bool} → r ≡ by_reply x (λ kept. eqb kept total && same_by_number old m entries after) false
        → r ≡ same_answers table columns rows term group stays total entries before
    unfolding same_answers
    once total e =
        rw (e, by-number-ext old (list_below n stays) m numbers-are entries after, ex, ea, cells_are, g.count)

  -- One query and another over the buffer that it leaves.
  pub twice : (table : List ℕ) (term group : ℕ) (before middle after : List ℕ) (x y : QueryReply)
      → x ≡ query_reply table columns (take (m * columns) left) term group before
      → middle ≡ query_buffer table columns (take (m * columns) left) term group before
      → y ≡ query_reply table columns (take (m * columns) left) term group middle
      → after ≡ query_buffer table columns (take (m * columns) left) term group middle
      → (total : ℕ) (r s : Bool)
      → r ≡ by_reply x (λ kept. eqb kept total && same_by_number old m entries middle) false
      → s ≡ by_reply y (λ kept. eqb kept total && same_by_number old m entries after) false
      → ((r && s) ≡ same_twice table columns rows term group stays total entries before)
      × (after ≡ queried_twice table columns (left_rows columns rows stays) term group before)
  unfolding same_twice queried_twice
  twice table term group before middle after x y ex em ey ea total r s er es = (
    rw (
      once table term group before middle x ex em total er,
      once table term group middle after y ey ea total es,
      em,
      cells_are,
    ),
    rw (ea, em, cells_are),
  )

-- ---- tests that agree

module _ (columns : ℕ) (rows : List ℤ) (p q : ℕ → Bool) (agree : (i : ℕ) → i < row_count columns rows → p i ≡ q i) where
  -- They leave the same rows,
  left-rows-ext : left_rows columns rows p ≡ left_rows columns rows q
  unfolding left_rows
  left-rows-ext = left-ext columns rows rows p q (row_count columns rows) (λ i h. refl) agree

  module _ (table : List ℕ) (term group total : ℕ) (entries : List ℕ) where
    answers-ext : (before : List ℕ) → same_answers table columns rows term group p total entries before
        ≡ same_answers table columns rows term group q total entries before
    unfolding same_answers
    answers-ext before =
        rw (left-rows-ext, list_ext (row_count columns rows) p q agree, count-ext (row_count columns rows) p q agree)

    -- and have the same answers.
    twice-ext : (before : List ℕ) → same_twice table columns rows term group p total entries before
        ≡ same_twice table columns rows term group q total entries before
    unfolding same_twice
    twice-ext before =
        rw (
          answers-ext before,
          left-rows-ext,
          answers-ext (query_buffer table columns (left_rows columns rows q) term group before),
        )

-- ---- what is said of it

-- A query over all rows replies x and leaves `after`; b is the buffer of the queries over those that are left.
module _ (table : List ℕ) (columns : ℕ) (rows : List ℤ) (term group : ℕ) (a b after : List ℕ) (x : QueryReply)
    (ex : x ≡ query_reply table columns rows term group a)
    (ea : after ≡ query_buffer table columns rows term group a) where
  abbrev reply : QueryReply
  reply = query_reply table columns rows term group a

  -- It refuses something,
  pub said-refused : (why : Refusal) → x ≡ Err why → (so : ℕ → Bool) (then : ℕ → List ℕ)
      → (false ≡ by_reply reply so false) × (b ≡ by_reply reply then b)
  said-refused why e so then = (rw (sym ex ∙ e), rw (sym ex ∙ e))

  -- or nothing: what is found of the rows of which one test holds is so of those of another that agrees.
  pub said-kept : (p q : ℕ → Bool) → ((i : ℕ) → i < row_count columns rows → p i ≡ q i)
      → (total : ℕ) → x ≡ Ok total → (r : Bool) (again : List ℕ)
      → r ≡ same_twice table columns rows term group p total after b
      → again ≡ queried_twice table columns (left_rows columns rows p) term group b
      → (r ≡ by_reply reply
      (λ total. same_twice table columns rows term group q total (query_buffer table columns rows term group a) b) false)
      × (again ≡ by_reply reply (λ total. queried_twice table columns (left_rows columns rows q) term group b) b)
  said-kept p q agree total e r again er eb =
      let twice =
      er ∙ twice-ext columns rows p q agree table term group total after b
      ∙ ap (λ (l : List ℕ). same_twice table columns rows term group q total l b) ea in
      let left =
      eb ∙ ap (λ (l : List ℤ). queried_twice table columns l term group b) (left-rows-ext columns rows p q agree) in
      (rw (sym ex ∙ e) twice, rw (sym ex ∙ e) left)
