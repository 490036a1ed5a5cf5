-- The two placings of a compound and ranking equally (SPECIFICATION, "The third promise, word by word"): accepted as
-- the table is, with the same reply; record k's term joins the same parts, and no term below it changes. Assumes
-- nothing.
-- What a reader or a contract cites stands in specs/Placings.
use Rattle.std.specs.Prelude.{◌≡◌, ◌⊎◌, false, List, [], ◌∷◌, ℕ, zero, suc, ◌+◌, ◌*◌, ◌<◌, ◌≤◌, ltb, eqb, ℤ, length}
use Rattle.std.proofs.Math.Path.{refl, sym, ap}
use Rattle.std.proofs.Common.{◌∙◌, inl, inr, arith}
use Rattle.std.proofs.Math.Logic.{⊎_elim}
use Rattle.std.proofs.Math.ListN.{get_or}
use borrow.Author.Tests.{ltb-true, ltb-false}
use Rattle.model.specs.declared.{Record.Record, Pair.Pair, CompoundTerm.CompoundTerm}
use Rattle.model.specs.declared.Pair.TheVariants.{Pareto, Prior}
use Rattle.model.specs.Bytes.{byte_at}
use Rattle.model.specs.Record.{record_count, record_of, record_at, kind_at, p_at, q_at, is_term}
use Rattle.model.specs.Term.{term_among, term_at}
use Rattle.model.specs.Demand.{rewritten, left_first, right_first, equally}
use Rattle.laws.specs.Bools.{on-or-off}
use Rattle.laws.specs.Terms.{term-joined}
use Rattle.laws.specs.Accepted.{Accepted}
use Rattle.laws.specs.AcceptedTable.{accepted-table}
use Rattle.laws.proofs.AcceptedTerms.{accepted-term}
use Rattle.laws.specs.Agree.{term-agrees}
use Rattle.laws.specs.Replaced.{Replaced, record-other, values_same, count_same, columns-same}
use Rattle.laws.specs.Rejudged.{replaced-accepted, replaced-reply}
use Rattle.laws.specs.Rewritten.{rewritten-kind, rewritten-replaced}
use Rattle.laws.specs.Placings.{Placed, TwoParts, two-parts}

module _ (table : List ℕ) (columns : ℕ) (ok : Accepted table columns) (k : ℕ) (inside : k < record_count table) where
  bytes_inside : 12 * k + 2 < length table
  bytes_inside = omega (arith, (accepted-table table columns ok).bytes)

  rewritten-placed : (op op' : Pair) (kind l r p q : ℕ)
      → record_at table k ≡ Record.Compound (CompoundTerm.Joined op l r)
      → ((u v : ℤ) → record_of kind p q u v ≡ Record.Compound (CompoundTerm.Joined op' p q)) → eqb kind 18 ≡ false
      → (((p ≡ l) × (q ≡ r)) ⊎ ((p ≡ r) × (q ≡ l)))
      → Placed table (rewritten table k kind p q) columns k op' (term_at table p) (term_at table q)
  unfolding term_at
  rewritten-placed op op' kind l r p q was now free ends =
      record {
        count = sym (count_same c);
        is_accepted = replaced-accepted c free' columns ok;
        reply = replaced-reply c free' columns ok;
        is_placed = ap is_term c.now;
        here =
            term-joined (rewritten table k kind p q) (record_count (rewritten table k kind p q)) k op' p q c.now
            parts.0 parts.1
            ∙ rw (below p parts.0, below q parts.1);
        below = below;
        reads = λ i. sym (columns-same c i);
      }
    where
      c : Replaced table (rewritten table k kind p q) k op op' l r p q
      c = rewritten-replaced table k kind p q bytes_inside op op' l r was now ends

      free' : eqb (kind_at (rewritten table k kind p q) k) 18 ≡ false
      free' = rw (rewritten-kind table k kind p q bytes_inside) free

      parts : (p < k) × (q < k)
      parts =
          let j = (accepted-term table columns ok k inside (ap is_term was)).of_joined op l r was in
          ⊎_elim (λ e. rw (e.0, e.1) (j.left, j.right)) (λ e. rw (e.0, e.1) (j.right, j.left)) ends

      below : (i : ℕ) → i < k
          → term_among (rewritten table k kind p q) (record_count (rewritten table k kind p q)) i
          ≡ term_among table (record_count table) i
      below i h =
          sym (term-agrees table (rewritten table k kind p q) (record_count table)
          (record_count (rewritten table k kind p q)) k
          (λ j m. record-other c j (λ e. omega arith))
          (λ t m. values_same c t (record_count table) ∙ rw (count_same c)) i h)

past_end : (bytes : List ℕ) (at : ℕ) → length bytes ≤ at → get_or bytes at 0 ≡ 0
past_end [] at h = refl
past_end (b ∷ bytes) zero h = absurd (omega arith)
past_end (b ∷ bytes) (suc at) h = past_end bytes at (omega arith)

module _ (table : List ℕ) (columns : ℕ) (ok : Accepted table columns) (k : ℕ) (two : TwoParts (kind_at table k)) where
  -- Past the end every record is of kind 0.
  pub two-inside : k < record_count table
  unfolding kind_at byte_at
  two-inside =
      ⊎_elim (λ t. omega (arith, ltb-true, (accepted-table table columns ok).bytes))
      (λ t. absurd (not-zero (past_end table (12 * k) (omega (arith, ltb-false)))))
      (on-or-off (ltb (12 * k) (length table)))
    where
      not-zero : get_or table (12 * k) 0 ≡ 0 → ⊥
      not-zero z = ⊎_elim (λ e. omega arith) (λ w. ⊎_elim (λ e. omega arith) (λ e. omega arith) w) two

  was : record_at table k ≡ Record.Compound (CompoundTerm.Joined (two-parts table k two).0 (p_at table k) (q_at table k))
  was = (two-parts table k two).1

  -- The placing with p first,
  pub left-first :
      Placed table (left_first table k) columns k Prior (term_at table (p_at table k)) (term_at table (q_at table k))
  unfolding left_first record_of
  left-first =
      rewritten-placed table columns ok k two-inside (two-parts table k two).0 Prior 17 (p_at table k) (q_at table k)
      (p_at table k) (q_at table k) was
      (λ u v. refl) refl (inl (refl, refl))

  -- the placing with q first,
  pub right-first :
      Placed table (right_first table k) columns k Prior (term_at table (q_at table k)) (term_at table (p_at table k))
  unfolding right_first record_of
  right-first =
      rewritten-placed table columns ok k two-inside (two-parts table k two).0 Prior 17 (p_at table k) (q_at table k)
      (q_at table k) (p_at table k) was
      (λ u v. refl) refl (inr (refl, refl))

  -- and ranking equally.
  pub ranked-equally :
      Placed table (equally table k) columns k Pareto (term_at table (p_at table k)) (term_at table (q_at table k))
  unfolding equally record_of
  ranked-equally =
      rewritten-placed table columns ok k two-inside (two-parts table k two).0 Pareto 16 (p_at table k) (q_at table k)
      (p_at table k) (q_at table k) was
      (λ u v. refl) refl (inl (refl, refl))
