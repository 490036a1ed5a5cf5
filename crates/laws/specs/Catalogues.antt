-- Any number of catalogues of whole rows, queried apart and then their kept rows together (SPECIFICATION, "Leaving out rows"),
-- by whatever strict order of rows. Assumes nothing.
use Rattle.std.specs.Prelude.{◌≡◌, refl, Bool, true, false, ℕ, ◌+◌, ◌*◌, ◌%◌, ◌<◌, ◌≤◌, eqb, ℤ, length}
use Rattle.std.proofs.Math.Path.{sym, ap}
use Rattle.std.proofs.Common.{◌∙◌, arith, eqb-true}
use Rattle.std.proofs.Math.Bool.{not}
use mathlib.Core.List.{List, [], ◌∷◌, ◌++◌}
use Rattle.std.proofs.lemmas.Bool.{not-false}
use Rattle.model.specs.Search.{count_below, any_in}
use Rattle.model.specs.Better.{Row}
use Rattle.model.specs.Query.{kept, row_count}
use Rattle.model.specs.Leaving.{left_below, left_rows}
use Rattle.laws.specs.Members.{or_off}
use Rattle.laws.specs.Order.{Rel, Strict}
use Rattle.laws.specs.LeftRows.{left-length, whole-rows, rows_of, append-rows, left-rows-length, left-rows-count}
use Rattle.laws.specs.Merged.{beats_over, rows-again, apart, apart-holds, apart-rows}

-- The rows of a run that no row of it beats, as a run.
unfoldable pub kept_of_run : Rel Row → ℕ → List ℤ → List ℤ
kept_of_run worse w run = left_rows w run (kept (row_count w run) (beats_over worse w run))

-- The catalogues, one after the other.
unfoldable pub joined : List (List ℤ) → List ℤ
joined [] = []
joined (run ∷ rest) = run ++ joined rest

-- The kept rows of each catalogue, one after the other.
unfoldable pub kept_of_each_run : Rel Row → ℕ → List (List ℤ) → List ℤ
kept_of_each_run worse w [] = []
kept_of_each_run worse w (run ∷ rest) = kept_of_run worse w run ++ kept_of_each_run worse w rest

module _ (w : ℕ) (some : 1 ≤ w) (worse : Rel Row) (strict : Strict worse) where
  abbrev keep : List ℤ → List ℤ
  keep = kept_of_run worse w

  keep-of : (run : List ℤ) (c : ℕ) → length run ≡ c * w → keep run ≡ left_below w run (kept c (beats_over worse w run)) c
  unfolding kept_of_run left_rows
  keep-of run c e = rw (rows_of w some run c e)

  keep-length : (run : List ℤ) → length (keep run) ≡ row_count w (keep run) * w
  unfolding kept_of_run
  keep-length run =
      left-rows-length w some run (kept (row_count w run) (beats_over worse w run))
      ∙ ap (λ (c : ℕ). c * w) (sym (left-rows-count w some run (kept (row_count w run) (beats_over worse w run))))

  -- Dropped rows left out, the same rows are kept.
  keep_left : (run : List ℤ) (c : ℕ) → length run ≡ c * w → (stays : ℕ → Bool)
      → ((k : ℕ) → k < c → kept c (beats_over worse w run) k ≡ true → stays k ≡ true)
      → keep (left_below w run stays c) ≡ keep run
  keep_left run c e stays holds =
      keep-of (left_below w run stays c) (count_below c stays) (left-length w run stays c (omega (arith, e)))
      ∙ rows-again worse strict w run c (omega (arith, e)) stays holds
      ∙ sym (keep-of run c e)

  -- Kept rows are kept again.
  keep-twice : (run : List ℤ) (c : ℕ) → length run ≡ c * w → keep (keep run) ≡ keep run
  keep-twice run c e =
      ap keep (keep-of run c e) ∙ keep_left run c e (kept c (beats_over worse w run)) (λ k h q. q)

  -- Two catalogues apart, then their kept rows together.
  pub merge-two : (a b : List ℤ) (c d : ℕ) → length a ≡ c * w → length b ≡ d * w
      → keep (keep a ++ keep b) ≡ keep (a ++ b)
  merge-two a b c d la lb =
      ap keep (rw (keep-of a c la, keep-of b d lb) (apart-rows worse strict w a b c d la lb))
      ∙ keep_left (a ++ b) (c + d) (append-rows w some a b c d la lb) (apart worse strict w a b c d la lb)
      (apart-holds worse strict w a b c d la lb)

  whole_append : (a b : List ℤ) → length a ≡ row_count w a * w → length b ≡ row_count w b * w
      → length (a ++ b) ≡ row_count w (a ++ b) * w
  whole_append a b la lb =
      let l = append-rows w some a b (row_count w a) (row_count w b) la lb in
      l ∙ ap (λ (c : ℕ). c * w) (sym (rows_of w some (a ++ b) (row_count w a + row_count w b) l))

  whole-none : length {A = ℤ} [] ≡ row_count w [] * w
  whole-none = let z = rows_of w some [] 0 (omega arith) in rw z (omega arith)

  -- Any number of them,
  merge-each : (catalogues : List (List ℤ)) → any_in catalogues (λ run. not (eqb (length run % w) 0)) ≡ false
      → (keep (kept_of_each_run worse w catalogues) ≡ keep (joined catalogues))
      × (length (joined catalogues) ≡ row_count w (joined catalogues) * w)
      × (length (kept_of_each_run worse w catalogues) ≡ row_count w (kept_of_each_run worse w catalogues) * w)
  unfolding kept_of_each_run joined any_in
  merge-each [] e = (refl, whole-none, whole-none)
  merge-each (a ∷ rest) e =
      let o = or_off (not (eqb (length a % w) 0)) (any_in rest (λ run. not (eqb (length run % w) 0))) e in
      let la = whole-rows w some a (eqb-true (length a % w) 0 (not-false (eqb (length a % w) 0) o.0)) in
      let ih = merge-each rest o.1 in
      let each = kept_of_each_run worse w rest in
      let all = joined rest in (
        sym (merge-two (keep a) each (row_count w (keep a)) (row_count w each) (keep-length a) ih.2)
            ∙ ap keep (rw (keep-twice a (row_count w a) la, ih.0))
            ∙ merge-two a all (row_count w a) (row_count w all) la ih.1,
        whole_append a all la ih.1,
        whole_append (keep a) each (keep-length a) ih.2,
      )

  -- queried apart, then their kept rows together: the same rows, in order.
  pub merge-all : (catalogues : List (List ℤ)) → any_in catalogues (λ run. not (eqb (length run % w) 0)) ≡ false
      → keep (kept_of_each_run worse w catalogues) ≡ keep (joined catalogues)
  merge-all catalogues e = (merge-each catalogues e).0
