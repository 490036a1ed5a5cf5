-- What the sentences on rows left out ask of replies and entries, as tests (SPECIFICATION, "Leaving out rows").
use Rattle.std.specs.Prelude.{Bool, false, not, cond, ◌&&◌, ◌||◌, List, ℕ, suc, ◌*◌, ltb, eqb, ℤ, get_or, take, drop, replicate}
use Rattle.model.specs.Search.{any_below, count_below, list_below}
use Rattle.model.specs.Query.{row_count, query_reply, query_buffer}
use Rattle.model.specs.Demand.{keeps}
use Rattle.model.specs.Leaving.{left_rows, by_catalogue}
use Rattle.demands.specs.Witness.{by_reply}

-- Entry i is i.
unfoldable pub holds_own : List ℕ → ℕ → Bool
holds_own entries i = eqb (get_or entries i (suc i)) i

-- Row i is marked.
unfoldable pub marked : List Bool → ℕ → Bool
marked stay i = get_or stay i false

-- ---- the rows that are left, queried again

-- Entry i of the m rows that are left is the number of one of them, and its old number is the entry that the row had.
unfoldable pub same_entry : List ℕ → ℕ → List ℕ → List ℕ → ℕ → Bool
same_entry old m entries again i =
    let e = get_or again i 0 in ltb e m && eqb (get_or old e 0) (get_or entries (get_or old i 0) 0)

-- So is every entry of theirs.
unfoldable pub same_by_number : List ℕ → ℕ → List ℕ → List ℕ → Bool
same_by_number old m entries again = not (any_below m (λ i. not (same_entry old m entries again i)))

-- "The same rows are kept and each remaining dropped row names the same better row": a query over the rows that are
-- left refuses nothing, keeps as many as were kept, and its entries are the same by old numbers.
unfoldable pub same_answers : List ℕ → ℕ → List ℤ → ℕ → ℕ → (ℕ → Bool) → ℕ → List ℕ → List ℕ → Bool
same_answers table columns rows term group stays total entries before =
    let n = row_count columns rows in
    let left = left_rows columns rows stays in
    by_reply (query_reply table columns left term group before)
    (λ again. eqb again total
    && same_by_number (list_below n stays) (count_below n stays) entries (query_buffer table columns left term group before))
    false

-- The buffer after one such query and another over what it leaves,
unfoldable pub queried_twice : List ℕ → ℕ → List ℤ → ℕ → ℕ → List ℕ → List ℕ
queried_twice table columns left term group before =
    query_buffer table columns left term group (query_buffer table columns left term group before)

-- and what both say.
unfoldable pub same_twice : List ℕ → ℕ → List ℤ → ℕ → ℕ → (ℕ → Bool) → ℕ → List ℕ → List ℕ → Bool
same_twice table columns rows term group stays total entries before =
    same_answers table columns rows term group stays total entries before
    && same_answers table columns rows term group stays total entries
    (query_buffer table columns (left_rows columns rows stays) term group before)

-- ---- dropped rows taken out

-- "Take out some or all of the dropped rows": a row stays if it is kept, or if its byte does not ask to take it out.
unfoldable pub spared : (ℕ → Bool) → List ℕ → ℕ → Bool
spared kept out i = kept i || eqb (get_or out i 0) 0

-- What the sentence says of the query over the rows, with its buffer a, and of those over the rows left, with b.
unfoldable pub left_out : List ℕ → ℕ → List ℤ → ℕ → ℕ → List ℕ → List ℕ → List ℕ → Bool
left_out table columns rows term group out a b =
    by_reply (query_reply table columns rows term group a)
    (λ total. same_twice table columns rows term group (spared (keeps table columns rows term group a) out) total
    (query_buffer table columns rows term group a) b)
    false

-- What the second buffer holds then; as it was, where the query over the rows is refused.
unfoldable pub left_out_buffer : List ℕ → ℕ → List ℤ → ℕ → ℕ → List ℕ → List ℕ → List ℕ → List ℕ
left_out_buffer table columns rows term group out a b =
    by_reply (query_reply table columns rows term group a)
    (λ total. queried_twice table columns (left_rows columns rows (spared (keeps table columns rows term group a) out))
    term group b)
    b

-- ---- two catalogues

-- The rows of the first catalogue: `split` of them, or all there are.
unfoldable pub first_count : ℕ → List ℤ → ℕ → ℕ
first_count columns rows split = let n = row_count columns rows in cond (ltb split n) split n

-- The rows kept by "querying two catalogues separately", the first n rows and the others; the buffer, zeros at first,
-- is used for both.
unfoldable pub kept_by_split : List ℕ → ℕ → List ℤ → ℕ → ℕ → ℕ → ℕ → Bool
kept_by_split table columns rows n term group =
    let first = take (n * columns) rows in
    let zeros : List ℕ = replicate 1024 0 in
    by_catalogue n (keeps table columns first term group zeros)
    (keeps table columns (drop (n * columns) rows) term group (query_buffer table columns first term group zeros))

-- What the sentence says of the query over both, with its buffer a, and of those over the kept rows together, with b.
unfoldable pub merges : List ℕ → ℕ → List ℤ → ℕ → ℕ → ℕ → List ℕ → List ℕ → Bool
merges table columns rows split term group a b =
    by_reply (query_reply table columns rows term group a)
    (λ total. same_twice table columns rows term group
    (kept_by_split table columns rows (first_count columns rows split) term group) total
    (query_buffer table columns rows term group a) b)
    false

-- What the second buffer holds then; as it was, where the query over both is refused.
unfoldable pub merges_buffer : List ℕ → ℕ → List ℤ → ℕ → ℕ → ℕ → List ℕ → List ℕ → List ℕ
merges_buffer table columns rows split term group a b =
    by_reply (query_reply table columns rows term group a)
    (λ total. queried_twice table columns
    (left_rows columns rows (kept_by_split table columns rows (first_count columns rows split) term group)) term group b)
    b
