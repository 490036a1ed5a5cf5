-- A part alone (SPECIFICATION, "The third promise, word by word": "the part's own where a part alone keeps"): its
-- record answers alike in the table, in the two placings and in the table that ranks the parts equally. Assumes
-- nothing.
use Rattle.std.specs.Prelude.{◌≡◌, refl, ◌⊎◌, true, ℤ, Ok}
use Rattle.std.proofs.Common.{sym, ◌∙◌, ap, ⊎_elim, arith}
use mathlib.Core.List.{List}
use Prim.Native.Nat.{ℕ, ◌<◌}
use Rattle.model.specs.declared.Pair.{Pair}
use Rattle.model.specs.Record.{record_count, record_at, p_at, q_at, is_term}
use Rattle.model.specs.Term.{Term}
use Rattle.model.specs.Query.{query_verdict, query_reply, query_buffer}
use Rattle.model.specs.Demand.{rewritten, left_first, right_first, equally}
use Rattle.laws.specs.Accepted.{accepted-true}
use Rattle.laws.specs.Agree.{same-record}
use Rattle.laws.specs.Rewritten.{rewritten-same}
use Rattle.laws.specs.Placings.{Placed}
use Rattle.laws.proofs.Placings.{left-first, right-first, ranked-equally}
use Rattle.theorems.specs.Asked.{AskedTwo, Long, Alike}
use Rattle.theorems.proofs.Dropped.{query-passes}
use Rattle.theorems.proofs.Placed.{ok, parts, of-record, whole}

module _ (table : List ℕ) (columns : ℕ) (rows : List ℤ) (k group : ℕ) (asked : AskedTwo table columns rows k group)
    (before : List ℕ) (long : Long columns rows before) where
  inside : k < record_count table
  inside = (whole table columns rows k group asked).of_term.below

  -- A term record below k answers alike in a table with another compound in record k.
  below_alike : (kind p q : ℕ) (op : Pair) (l r : Term) → Placed table (rewritten table k kind p q) columns k op l r
      → (part : ℕ) → part < k → is_term (record_at table part) ≡ true
      → Alike table (rewritten table k kind p q) columns rows part group before
  unfolding query_reply query_buffer
  below_alike kind p q op l r w part h t = rw (here, there, w.below part h) (refl, refl)
    where
      placing : List ℕ
      placing = rewritten table k kind p q

      here : query_verdict table columns rows part group before ≡ Ok tt
      here =
          query-passes table columns rows part group
          (of-record table columns rows k group asked table asked.is_accepted part (omega (arith, inside)) t) before long

      there : query_verdict (rewritten table k kind p q) columns rows part group before ≡ Ok tt
      there =
          query-passes placing columns rows part group
          (of-record table columns rows k group asked placing ((accepted-true placing columns).1 w.is_accepted) part
          (rw w.count (omega (arith, inside)))
          (sym (ap is_term (same-record table placing part (rewritten-same table k kind p q part (λ e. omega arith)))) ∙ t))
          before long

  three-alike : (part : ℕ) → part < k → is_term (record_at table part) ≡ true
      → Alike table (left_first table k) columns rows part group before
      × Alike table (right_first table k) columns rows part group before
      × Alike table (equally table k) columns rows part group before
  unfolding left_first right_first equally
  three-alike part h t =
      let accepted = ok table columns rows k group asked in (
        below_alike 17 (p_at table k) (q_at table k) _ _ _ (left-first table columns accepted k asked.two_parts) part h t,
        below_alike 17 (q_at table k) (p_at table k) _ _ _ (right-first table columns accepted k asked.two_parts) part h t,
        below_alike 16 (p_at table k) (q_at table k) _ _ _ (ranked-equally table columns accepted k asked.two_parts) part h t,
      )

  -- Each part's own record answers alike in the table, its placings and ranking equally.
  pub parts-alone : (part : ℕ) → (part ≡ p_at table k) ⊎ (part ≡ q_at table k)
      → Alike table (left_first table k) columns rows part group before
      × Alike table (right_first table k) columns rows part group before
      × Alike table (equally table k) columns rows part group before
  parts-alone part which =
      let w = parts table columns rows k group asked in
      ⊎_elim
      (λ e. three-alike part (rw e w.left) (rw e w.left_term))
      (λ e. three-alike part (rw e w.right) (rw e w.right_term))
      which
