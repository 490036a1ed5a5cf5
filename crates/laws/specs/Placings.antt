-- The two placings of a compound and ranking equally (SPECIFICATION, "The third promise, word by word"): accepted as
-- the table is, with the same reply; record k's term joins the same parts, and no term below it changes. Assumes
-- nothing.
use Rattle.std.specs.Prelude.{◌≡◌, ◌⊎◌, true, List, ℕ, ◌<◌}
use Rattle.std.proofs.Common.{inl, inr}
use Rattle.model.specs.declared.{Record.Record, Pair.Pair, CompoundTerm.CompoundTerm}
use Rattle.model.specs.declared.Pair.TheVariants.{Pareto, Prior, Both}
use Rattle.model.specs.Record.{record_count, record_of, record_at, kind_at, p_at, q_at, is_term}
use Rattle.model.specs.Term.{Term, pair, term_at, columns_of}
use Rattle.model.specs.Check.{check_reply}
use Rattle.laws.specs.Accepted.{Accepted}

-- What holds of an accepted table with another compound of the terms l and r in record k.
pub record Placed (table placing : List ℕ) (columns k : ℕ) (op : Pair) (l r : Term) : Type 0 where
  pub count : record_count placing ≡ record_count table
  pub is_accepted : Accepted placing columns
  pub reply : check_reply placing columns ≡ check_reply table columns
  pub is_placed : is_term (record_at placing k) ≡ true
  pub here : term_at placing k ≡ pair op l r
  pub below : (i : ℕ) → i < k → term_at placing i ≡ term_at table i
  pub reads : (i : ℕ) → columns_of (term_at placing i) ≡ columns_of (term_at table i)

-- ---- placings

-- A record of kind 16, 17 or 18.
abbrev pub TwoParts : ℕ → Type 0
TwoParts kind = (kind ≡ 16) ⊎ ((kind ≡ 17) ⊎ (kind ≡ 18))

-- It is a compound of the parts p and q.
pub two-parts : (table : List ℕ) (k : ℕ) → TwoParts (kind_at table k)
    → (op : Pair) × (record_at table k ≡ Record.Compound (CompoundTerm.Joined op (p_at table k) (q_at table k)))
unfolding record_at record_of
two-parts table k (inl e) = (Pareto, rw e)
two-parts table k (inr (inl e)) = (Prior, rw e)
two-parts table k (inr (inr e)) = (Both, rw e)
