-- Whether two replies of Query and two answer buffers are the same (the second signed sentence, "Both engines answer so"). A
-- reply is two numbers (SPECIFICATION, "What a call refuses"): the refusal's, 0 where nothing is refused, and the kept
-- count or the record that the refusal names. They tell it apart from every other reply. Assumes nothing.
use Rattle.std.specs.Prelude.{◌≡◌, refl, ◌↔◌, Bool, true, false, not, cond, ◌&&◌, List, ℕ, eqb, length, get_or, Ok, Err}
use Rattle.std.proofs.Common.{sym, ◌∙◌, ap, arith, ext_get_or, eqb-true, eq-eqb}
use Rattle.std.proofs.lemmas.Bool.{not-true, not-false}
use Rattle.model.specs.Words.{QueryReply}
use Rattle.model.specs.declared.Refusal.{Refusal}
use Rattle.model.specs.Replies.{listed, listed_query, refusals, numbered, refusal}
use Rattle.model.specs.Search.{any_below}
use Rattle.laws.specs.Bools.{and_l, and_r, and_i, not-both, off}
use Rattle.laws.specs.Search.{none-e, none-i}
use Rattle.laws.specs.Listed.{record_in, refusal_of, refusal-back}

-- The kept count, or the record that the refusal names, 0 where it names none.
abbrev pub value_replied : QueryReply → ℕ
value_replied (Ok total) = total
value_replied (Err why) = record_in (listed why).place

-- The reply with these two numbers.
abbrev back : ℕ → ℕ → QueryReply
back number value = cond (eqb number 0) (Ok value) (Err (refusal number value))

-- No refusal has the number 0: number 0 is none of the list, and reads as SHORT, which has 18.
not-zero : (why : Refusal) → eqb (listed why).number 0 ≡ false
unfolding refusal_of refusal numbered refusals
not-zero why =
    off (eqb (listed why).number 0)
    (λ e. let z = eqb-true (listed why).number 0 e in
    let s : why ≡ Refusal.Short = sym (refusal-back why) ∙ rw z in
    let t : (listed why).number ≡ 18 = ap (λ (w : Refusal). (listed w).number) s in
    omega (arith, z, t))

read_back : (r : QueryReply) → back (listed_query r).number (value_replied r) ≡ r
unfolding refusal_of
read_back (Ok total) = refl
read_back (Err why) = rw (not-zero why) (ap Err (refusal-back why))

-- Replies with the same two numbers are the same.
replied-apart : (a b : QueryReply) → (listed_query a).number ≡ (listed_query b).number → value_replied a ≡ value_replied b → a ≡ b
replied-apart a b e f = sym (read_back a) ∙ rw (e, f) (read_back b)

-- Two replies of Query are the same: both numbers are.
unfoldable pub same_reply : QueryReply → QueryReply → Bool
same_reply x y = eqb (listed_query x).number (listed_query y).number && eqb (value_replied x) (value_replied y)

-- Entry i of two buffers is not the same.
abbrev differ : List ℕ → List ℕ → ℕ → Bool
differ a b i = not (eqb (get_or a i 0) (get_or b i 0))

-- Two answer buffers are the same: as long as each other, and equal entry by entry.
unfoldable pub same_entries : List ℕ → List ℕ → Bool
same_entries a b = eqb (length a) (length b) && not (any_below (length a) (differ a b))

-- The first test is equality,
pub same-reply-is : (x y : QueryReply) → (same_reply x y ≡ true) ↔ (x ≡ y)
unfolding same_reply
same-reply-is x y = (
  λ e. replied-apart x y
      (eqb-true (listed_query x).number (listed_query y).number (and_l _ (eqb (value_replied x) (value_replied y)) e))
      (eqb-true (value_replied x) (value_replied y) (and_r (eqb (listed_query x).number (listed_query y).number) _ e)),
  λ e. and_i (eq-eqb (listed_query x).number (listed_query y).number (ap (λ (r : QueryReply). (listed_query r).number) e))
      (eq-eqb (value_replied x) (value_replied y) (ap value_replied e)),
)

-- and so is the second.
pub same-entries-is : (a b : List ℕ) → (same_entries a b ≡ true) ↔ (a ≡ b)
unfolding same_entries
same-entries-is a b = (
  λ e. let long = eqb (length a) (length b) in
      let some = any_below (length a) (differ a b) in
      ext_get_or 0 a b (eqb-true (length a) (length b) (and_l long (not some) e))
      (λ j h. eqb-true (get_or a j 0) (get_or b j 0) (not-false (eqb (get_or a j 0) (get_or b j 0))
      (none-e (length a) (differ a b) (not-true some (and_r long (not some) e)) j h))),
  λ e. and_i (eq-eqb (length a) (length b) (ap (λ (l : List ℕ). length l) e))
      (ap not (none-i (length a) (differ a b) (λ j h d. not-both d (eq-eqb (get_or a j 0) (get_or b j 0) (rw e))))),
)
