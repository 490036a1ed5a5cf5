-- Chains (SPECIFICATION, "Chains"): the rows that Query keeps ungrouped under a chain are equal in its columns, and
-- PRIOR with a chain on the left keeps what the right keeps among the rows kept by the left. Assumes nothing.
use Rattle.std.specs.Prelude.{◌≡◌, ◌↔◌, Bool, true, ◌&&◌, List, ℕ, ◌<◌, ℤ}
use Rattle.std.proofs.Common.{sym, ◌∙◌, inl, inr}
use Rattle.model.specs.declared.{Record.Record, CompoundTerm.CompoundTerm}
use Rattle.model.specs.declared.Pair.TheVariants.{Prior}
use Rattle.model.specs.Record.{record_of, record_at, kind_at, p_at, q_at}
use Rattle.model.specs.Term.{pair, term_at, columns_of}
use Rattle.model.specs.Better.{EqualIn}
use Rattle.model.specs.Query.{kept, row_count, row_at, beats_in}
use Rattle.model.specs.Demand.{is_chain, keeps}
use Rattle.laws.specs.Bools.{and_l, and_r, and_i}
use Rattle.laws.specs.Columns.{equal-cells}
use Rattle.laws.specs.Select.{kept-i, kept-e}
use Rattle.laws.specs.Query.{keeps-kept}
use Rattle.laws.specs.Accepted.{accepted-true}
use Rattle.laws.proofs.AcceptedTerms.{accepted-term}
use Rattle.laws.proofs.Taken.{taken-asked, taken-sound}
use Rattle.laws.specs.Cascade.{beats_after, chain-kept, chain-prior-group}
use Rattle.theorems.specs.Asked.{Asked, AskedTwo, Long, BeatenBy}
use Rattle.theorems.specs.Ordered.{taken}
use Rattle.theorems.specs.Dropped.{beaten-by, by-beaten}
use Rattle.theorems.proofs.Dropped.{query-takes}
use Rattle.theorems.proofs.Placed.{left-part}

-- What Query keeps is what the term keeps.
kept_by : (table : List ℕ) (columns : ℕ) (rows : List ℤ) (term group : ℕ) → Asked table columns rows term group
    → (before : List ℕ) → Long columns rows before → (i : ℕ) → i < row_count columns rows
    → keeps table columns rows term group before i
    ≡ kept (row_count columns rows) (beats_in (term_at table term) columns rows group) i
kept_by table columns rows term group asked before long =
    keeps-kept table columns rows term group before
    (taken-asked table columns rows term group before (query-takes table columns rows term group asked before long))

-- Rows kept ungrouped by a chain are equal in its columns.
pub chain-keeps-equal : (table : List ℕ) (columns : ℕ) (rows : List ℤ) (term : ℕ) → Asked table columns rows term 0
    → is_chain (term_at table term) ≡ true → (before : List ℕ) → Long columns rows before
    → (i j : ℕ) → i < row_count columns rows → j < row_count columns rows
    → keeps table columns rows term 0 before i ≡ true → keeps table columns rows term 0 before j ≡ true
    → EqualIn (columns_of (term_at table term)) (row_at columns rows i) (row_at columns rows j)
chain-keeps-equal table columns rows term asked c before long i j hi hj ki kj =
    (equal-cells (term_at table term) (row_at columns rows i) (row_at columns rows j)).0
    (chain-kept columns rows (row_count columns rows) (term_at table term) c
    (taken-sound table columns term (taken table columns term asked.of_term)).1 i j hi hj
    (sym (kept_by table columns rows term 0 asked before long i hi) ∙ ki)
    (sym (kept_by table columns rows term 0 asked before long j hj) ∙ kj))

module _ (table : List ℕ) (columns : ℕ) (rows : List ℤ) (k group : ℕ) (asked : Asked table columns rows k group)
    (prior : kind_at table k ≡ 17) where
  abbrev p : ℕ
  p = p_at table k

  abbrev q : ℕ
  q = q_at table k

  abbrev n : ℕ
  n = row_count columns rows

  two : AskedTwo table columns rows k group
  two =
      record {
        is_accepted = asked.of_term.is_accepted;
        two_parts = inr (inl prior);
        rows_fit = asked.rows_fit;
        group_fits = asked.group_fits;
      }

  is-prior : record_at table k ≡ Record.Compound (CompoundTerm.Joined Prior p q)
  unfolding record_at record_of
  is-prior = rw prior

  joins : term_at table k ≡ pair Prior (term_at table p) (term_at table q)
  joins =
      ((accepted-term table columns ((accepted-true table columns).0 asked.of_term.is_accepted) k asked.of_term.below
      asked.of_term.is_record).of_joined Prior p q is-prior).equation

  left : Asked table columns rows p group
  left = left-part table columns rows k group two

  -- PRIOR with a chain on the left keeps what the right keeps among the rows kept by the left.
  pub chain-prior : is_chain (term_at table (p_at table k)) ≡ true → (a b : List ℕ) → Long columns rows a → Long columns rows b
      → (i : ℕ) → i < row_count columns rows
      → (keeps table columns rows k group a i ≡ true)
      ↔ ((keeps table columns rows (p_at table k) group b i ≡ true)
      × ((j : ℕ) → keeps table columns rows (p_at table k) group b j ≡ true
      → BeatenBy table columns rows (q_at table k) group i j
      → ⊥))
  chain-prior c a b la lb i row = (
    λ e. let w = sym same ∙ e in (
      by_left i row ∙ and_l _ (kept n after i) w,
      λ j kj b. kept-e n after i (and_r (kept n (beats_in (term_at table p) columns rows group) i) _ w) j b.is_row
          (and_i (sym (by_left j b.is_row) ∙ kj) (by-beaten table columns rows q group i j b)),
    ),
    λ w. same ∙ and_i (sym (by_left i row) ∙ w.0)
        (kept-i n after i
        (λ j h e. w.1 j (by_left j h ∙ and_l _ (beats_in (term_at table q) columns rows group j i) e)
        (beaten-by table columns rows q group i j h
        (and_r (kept n (beats_in (term_at table p) columns rows group) j) _ e)))),
  )
    where
      after : ℕ → ℕ → Bool
      after = beats_after (term_at table p) (term_at table q) columns rows group n

      by_left : (j : ℕ) → j < n
          → keeps table columns rows p group b j ≡ kept n (beats_in (term_at table p) columns rows group) j
      by_left = kept_by table columns rows p group left b lb

      same : keeps table columns rows k group a i
          ≡ (kept n (beats_in (term_at table p) columns rows group) i && kept n after i)
      same =
          kept_by table columns rows k group asked a la i row
          ∙ rw joins
          (chain-prior-group columns rows n (term_at table p) (term_at table q) c
          (taken-sound table columns p (taken table columns p left.of_term)).1 group i row)
