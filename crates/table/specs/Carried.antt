-- What the check carries from record to record, so that no rule looks for it again.
use Rattle.std.specs.Prelude.{◌≡◌, Bool, false, ◌&&◌, List, ℕ, ◌<◌, ltb, get_or}
use Rattle.model.specs.Record.{record_at, is_term, nearest_term}
use Rattle.model.specs.Check.{is_part}

-- Which records are terms before record k,
abbrev pub TermsBelow : List ℕ → ℕ → List Bool → Type 0
TermsBelow table k terms = (j : ℕ) → j < 256 → get_or terms j false ≡ (ltb j k && is_term (record_at table j))

-- and which are parts of a record before it.
abbrev pub UsedBelow : List ℕ → ℕ → List Bool → Type 0
UsedBelow table k used = (j : ℕ) → j < 256 → get_or used j false ≡ is_part table k j

-- All that is carried up to record k: the nearest term before it too.
pub record Carried (table : List ℕ) (k near : ℕ) (terms used : List Bool) : Type 0 where
  pub nearest : near ≡ nearest_term table k
  pub terms_below : TermsBelow table k terms
  pub used_below : UsedBelow table k used
