-- The witness of a dropped row, as a test of the answers (the second and the third signed sentence): its entry is a row that
-- holds its own number, is in its group and is first better in Compare's reply.
use Rattle.std.specs.Prelude.{◌≡◌, Bool, false, not, ◌&&◌, ◌||◌, List, ℕ, ◌*◌, ◌≤◌, ltb, eqb, ℤ, length, get_or, Ok, Err}
use Rattle.model.specs.Words.{QueryReply}
use Rattle.model.specs.Search.{any_below}
use Rattle.model.specs.Better.{equal_in}
use Rattle.model.specs.Compare.{compare_reply}
use Rattle.model.specs.Query.{row_count, row_at, query_reply, query_buffer}
use Rattle.demands.specs.Given.{number_given}

-- n rows of 1 to 8 columns, and an entry for each.
pub record Answers (columns : ℕ) (rows : List ℤ) (n : ℕ) (answers : List ℕ) : Type 0 where
  pub some : 1 ≤ columns
  pub few : columns ≤ 8
  pub run : length rows ≡ n * columns
  pub most : n ≤ 1024
  pub long : n ≤ length answers

-- Row e holds its own number, is in row i's group, and is first better.
unfoldable pub is_witness : List ℕ → ℕ → List ℤ → ℕ → ℕ → List ℕ → ℕ → ℕ → Bool
is_witness table columns rows term group answers i e =
    eqb (get_or answers e 0) e
    && equal_in group (row_at columns rows i) (row_at columns rows e)
    && eqb (number_given (compare_reply table columns term (row_at columns rows e) (row_at columns rows i))) 1

-- Row i is kept, or its entry is a row and its witness.
unfoldable pub witnessed : List ℕ → ℕ → List ℤ → ℕ → ℕ → ℕ → List ℕ → ℕ → Bool
witnessed table columns rows n term group answers i =
    let e = get_or answers i 0 in eqb e i || (ltb e n && is_witness table columns rows term group answers i e)

-- So is every row.
unfoldable pub all_witnessed : List ℕ → ℕ → List ℤ → ℕ → ℕ → ℕ → List ℕ → Bool
all_witnessed table columns rows n term group answers =
    not (any_below n (λ i. not (witnessed table columns rows n term group answers i)))

-- What is so of the kept count; what is said instead where Query refuses.
abbrev pub by_reply : {A : Type 0} → QueryReply → (ℕ → A) → A → A
by_reply (Ok total) so refused = so total
by_reply (Err why) so refused = refused

-- What is so where Query refused nothing; false where it refused.
abbrev pub where_kept : QueryReply → Bool → Bool
where_kept reply so = by_reply reply (λ total. so) false

-- Of Query's reply and of what it leaves in the buffer: it refused nothing, and every row is kept or has its witness.
unfoldable pub query_witnessed : List ℕ → ℕ → List ℤ → ℕ → ℕ → List ℕ → Bool
query_witnessed table columns rows term group before =
    where_kept (query_reply table columns rows term group before)
    (all_witnessed table columns rows (row_count columns rows) term group (query_buffer table columns rows term group before))

-- "Every dropped row is beaten by a kept row of the set": of one query and of another over the buffer that it leaves.
unfoldable pub beaten_by_kept : List ℕ → ℕ → List ℤ → ℕ → ℕ → List ℕ → Bool
beaten_by_kept table columns rows term group before =
    query_witnessed table columns rows term group before
    && query_witnessed table columns rows term group (query_buffer table columns rows term group before)
