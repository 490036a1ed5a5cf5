-- A table without EXPLICIT terms: nothing is to be reached. Assumes nothing.
use Rattle.std.specs.Prelude.{◌≡◌, refl, Bool, false, List, ℕ, eqb}
use Rattle.std.proofs.Common.{sym, ◌∙◌, eq-eqb}
use Rattle.std.proofs.lemmas.Bool.{false≢true}
use Rattle.model.specs.declared.Record.TheVariants.{Base}
use Rattle.model.specs.declared.BaseTerm.TheVariants.{Explicit}
use Rattle.model.specs.Search.{any_below}
use Rattle.model.specs.Record.{record_count, record_at, kind_at}
use Rattle.laws.specs.Search.{any-i}
use Rattle.laws.specs.Records.{kind_number, kind-of}
use Rattle.terms.specs.Prepared.{Reached}

-- EXPLICIT is kind 9.
pub explicit-nine : (table : List ℕ) (k column : ℕ) → record_at table k ≡ Base column Explicit → kind_at table k ≡ 9
unfolding kind_number
explicit-nine table k column e = kind-of table k (Base column Explicit) e refl

-- So where no record is of kind 9, any rows will do.
pub no_edges : (table ends : List ℕ) (reach : List (List Bool))
    → any_below (record_count table) (λ (k : ℕ). eqb (kind_at table k) 9) ≡ false → Reached table ends reach
no_edges table ends reach none =
    record {
      each = λ k column l e. absurd (false≢true (sym none ∙ any-i (record_count table) (λ (k : ℕ). eqb (kind_at table k) 9) k l
          (eq-eqb (kind_at table k) 9 (explicit-nine table k column e))));
    }
