-- Where Query takes a record of two parts, it takes the two placings, ranking equally, and each part's own record, and the
-- rows that they keep are as the third signed sentence says (SPECIFICATION, "The third promise, word by word"). Assumes
-- nothing.
use Rattle.std.specs.Prelude.{◌≡◌, true, not, ◌&&◌, ◌||◌, List, ℕ, ◌<◌, ◌≤◌, ℤ, length, Ok}
use Rattle.std.proofs.Common.{arith}
use Rattle.model.specs.declared.Pair.{Pair}
use Rattle.model.specs.declared.Pair.TheVariants.{Pareto, Prior}
use Rattle.model.specs.Search.{any_below}
use Rattle.model.specs.Record.{record_at, kind_at, p_at, q_at, is_term}
use Rattle.model.specs.Term.{Term, term_at}
use Rattle.model.specs.Query.{row_count, beats_in, query_verdict}
use Rattle.model.specs.Demand.{left_first, right_first, equally, keeps, keeps_among}
use Rattle.laws.specs.Query.{Asked, prior-keeps, pareto-keeps}
use Rattle.laws.specs.Accepted.{Accepted}
use Rattle.laws.specs.AcceptedKinds.{AcceptedJoined}
use Rattle.laws.proofs.AcceptedTerms.{accepted-term}
use Rattle.laws.specs.Taken.{Taken, taken-gives}
use Rattle.laws.proofs.Taken.{taken-asked}
use Rattle.laws.specs.Placings.{TwoParts, Placed, two-parts}
use Rattle.laws.proofs.Placings.{left-first, right-first, ranked-equally}

module _ (table : List ℕ) (columns : ℕ) (rows : List ℤ) (k group : ℕ) (before : List ℕ)
    (passed : query_verdict table columns rows k group before ≡ Ok tt) (two : TwoParts (kind_at table k)) where
  t : Taken table columns rows k group before
  t = taken-gives table columns rows k group before passed

  abbrev p : ℕ
  p = p_at table k

  abbrev q : ℕ
  q = q_at table k

  ok : Accepted table columns
  ok = t.of_term.is_accepted

  -- A table with another compound in record k is taken too, with any buffer that is long enough,
  placed-asked : (placing : List ℕ) (op : Pair) (l r : Term) → Placed table placing columns k op l r
      → (b : List ℕ) → row_count columns rows ≤ length b → Asked placing columns rows k group b
  placed-asked placing op l r w b h =
      taken-asked placing columns rows k group b
      (record {
        of_term = record { is_accepted = w.is_accepted; below = rw w.count t.of_term.below; is_record = w.is_placed };
        rows_fit = t.rows_fit;
        group_fits = t.group_fits;
        long = h;
      })

  -- and so is each part's own record.
  part-asked : (part : ℕ) → part < k → is_term (record_at table part) ≡ true
      → (b : List ℕ) → row_count columns rows ≤ length b → Asked table columns rows part group b
  part-asked part m r b h =
      taken-asked table columns rows part group b
      (record {
        of_term = record { is_accepted = ok; below = omega (arith, t.of_term.below); is_record = r };
        rows_fit = t.rows_fit;
        group_fits = t.group_fits;
        long = h;
      })

  parts : AcceptedJoined table k (two-parts table k two).0 p q
  parts =
      (accepted-term table columns ok k t.of_term.below t.of_term.is_record).of_joined (two-parts table k two).0 p q
      (two-parts table k two).1

  left : Placed table (left_first table k) columns k Prior (term_at table p) (term_at table q)
  left = left-first table columns ok k two

  right : Placed table (right_first table k) columns k Prior (term_at table q) (term_at table p)
  right = right-first table columns ok k two

  even : Placed table (equally table k) columns k Pareto (term_at table p) (term_at table q)
  even = ranked-equally table columns ok k two

  left-asked : (b : List ℕ) → row_count columns rows ≤ length b → Asked (left_first table k) columns rows k group b
  left-asked = placed-asked (left_first table k) Prior (term_at table p) (term_at table q) left

  right-asked : (b : List ℕ) → row_count columns rows ≤ length b → Asked (right_first table k) columns rows k group b
  right-asked = placed-asked (right_first table k) Prior (term_at table q) (term_at table p) right

  even-asked : (b : List ℕ) → row_count columns rows ≤ length b → Asked (equally table k) columns rows k group b
  even-asked = placed-asked (equally table k) Pareto (term_at table p) (term_at table q) even

  module _ (i : ℕ) (row : i < row_count columns rows) where
    -- One placed before the other keeps a row exactly when the first keeps it and the second keeps it among the rows of the
    -- set that equal it in the first's columns: the left first, and the right first.
    pub placed-before-keeps : (a b : List ℕ) → row_count columns rows ≤ length a → row_count columns rows ≤ length b
        → (keeps (left_first table k) columns rows k group a i
        ≡ (keeps table columns rows p group b i && keeps_among table columns rows p q group i))
        × (keeps (right_first table k) columns rows k group a i
        ≡ (keeps table columns rows q group b i && keeps_among table columns rows q p group i))
    placed-before-keeps a b h m = (
      prior-keeps columns rows group i row (left_first table k) table k p q a b (left-asked a h)
          (part-asked p parts.left parts.left_term b m) left.here,
      prior-keeps columns rows group i row (right_first table k) table k q p a b (right-asked a h)
          (part-asked q parts.right parts.right_term b m) right.here,
    )

    -- The same two, ranking equally, keep a row exactly when at least one of the two placings keeps it, or when it is beaten
    -- under both placings but by no single row of the set under both.
    pub ranked-equally-keeps : (a b c : List ℕ) → row_count columns rows ≤ length a → row_count columns rows ≤ length b
        → row_count columns rows ≤ length c
        → keeps (equally table k) columns rows k group a i
        ≡ ((keeps (left_first table k) columns rows k group b i || keeps (right_first table k) columns rows k group c i)
        || ((not (keeps (left_first table k) columns rows k group b i)
        && not (keeps (right_first table k) columns rows k group c i))
        && not (any_below (row_count columns rows)
        (λ j. beats_in (term_at (left_first table k) k) columns rows group j i
        && beats_in (term_at (right_first table k) k) columns rows group j i))))
    ranked-equally-keeps a b c h m o =
        pareto-keeps columns rows group i row (equally table k) (left_first table k) (right_first table k) table k p q a b c
        (even-asked a h) (left-asked b m) (right-asked c o) even.here left.here right.here
