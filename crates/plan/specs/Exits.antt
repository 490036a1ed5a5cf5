-- The masks of the records beneath the asked term, which say what their outcomes tell of its outcome (exit_masks/specs/Told.antt),
-- and how a compound's mask goes over to its parts.
use Rattle.std.specs.Prelude.{◌≡◌, true, false, cond, ◌&&◌, List, ℕ, ◌<◌, ◌≤◌, get_or, set, length}
use Rattle.model.specs.declared.{CompoundTerm.CompoundTerm, Pair.Pair, Record.Record}
use Rattle.model.specs.declared.CompoundTerm.TheVariants.{Joined, Dual}
use Rattle.model.specs.declared.Pair.TheVariants.{Pareto, Prior, Both}
use Rattle.model.specs.declared.Record.TheVariants.{Base, Compound, Unknown}
use Rattle.model.specs.Record.{record_at, is_term}
use Rattle.model.specs.Term.{term_at}
use Rattle.model.specs.Better.{Row}
use Rattle.laws.specs.Codes.{code}
use Rattle.laws.specs.Taken.{TakenTerm}
use Rattle.plan.specs.Told.{is_nothing, told_code, bits, within, holds, turned_mask, part_mask, own_mask}
use Rattle.plan.specs.declared.vetted.exit_masks.{Exit.Exit}
use Rattle.plan.specs.declared.vetted.exit_masks.Exit.TheVariants.{Nothing, Bits, All}

-- ---- the masks of an asked term

unfoldable pub mask_at : List Exit → ℕ → Exit
mask_at exits k = get_or exits k Nothing

-- What record k tells of the asked term where x is compared with y.
unfoldable pub tells_at : List ℕ → List Exit → Row → Row → ℕ → ℕ
tells_at table exits x y k = told_code (mask_at exits k) (code (term_at table k) x y)

-- What is told is true, and the asked term's code has no bits but those that its records tell.
pub record Exits (table : List ℕ) (term : ℕ) (exits : List Exit) : Type 0 where
  pub room : length exits ≡ 128
  pub terms : (k : ℕ) → is_term (record_at table k) ≡ false → mask_at exits k ≡ Nothing
  pub each : (k : ℕ) (x y : Row) → holds (tells_at table exits x y k) (code (term_at table term) x y) ≡ true
  pub whole : (x y : Row) (w : ℕ) → w < 4 → ((k : ℕ) → k ≤ term → within (bits (tells_at table exits x y k)) w ≡ true)
      → within (code (term_at table term) x y) w ≡ true

-- What the masks are found from.
pub record Exitable (table : List ℕ) (term : ℕ) : Type 0 where
  pub columns : ℕ
  pub taken : TakenTerm table columns term

-- ---- from a compound's mask to its parts'

-- The parts of a record are among 128 records.
abbrev pub PartsWithin : Record → Type 0
PartsWithin (Record.Value a) = Unit {0}
PartsWithin (Base column b) = Unit {0}
PartsWithin (Compound (Joined op p q)) = (p < 128) × (q < 128)
PartsWithin (Compound (Dual p)) = p < 128
PartsWithin Unknown = Unit {0}

-- The asked term's own mask: PARETO's and BOTH's parts tell all of its code.
abbrev pub joined_start : Pair → Exit
joined_start Pareto = Bits
joined_start Prior = All
joined_start Both = Bits

abbrev pub start_mask : Record → Exit
start_mask (Record.Value a) = All
start_mask (Base column b) = All
start_mask (Compound (Joined op p q)) = joined_start op
start_mask (Compound (Dual p)) = All
start_mask Unknown = All

-- The masks with those of the parts of compound k, of mask m, where they have none.
unfoldable pub pushed : ℕ → ℕ → ℕ → Exit → List Exit → List Exit
pushed p q k m exits =
    cond (is_nothing (get_or exits p Nothing) && is_nothing (get_or exits q Nothing))
    (set (set (set exits p (part_mask m)) q (part_mask m)) k (own_mask m)) exits

unfoldable pub left_pushed : ℕ → Exit → List Exit → List Exit
left_pushed p m exits = cond (is_nothing (get_or exits p Nothing)) (set exits p m) exits

unfoldable pub dual_pushed : ℕ → ℕ → Exit → List Exit → List Exit
dual_pushed p k m exits = cond (is_nothing (get_or exits p Nothing)) (set (set exits p (turned_mask m)) k Nothing) exits

abbrev pub joined_pushed : Pair → ℕ → ℕ → ℕ → Exit → List Exit → List Exit
joined_pushed Pareto p q k m exits = pushed p q k m exits
joined_pushed Prior p q k m exits = left_pushed p m exits
joined_pushed Both p q k m exits = pushed p q k m exits

abbrev pub compound_pushed : CompoundTerm → ℕ → List Exit → List Exit
compound_pushed (Joined op p q) k exits = joined_pushed op p q k (get_or exits k Nothing) exits
compound_pushed (Dual p) k exits = dual_pushed p k (get_or exits k Nothing) exits

abbrev pub record_pushed : Record → ℕ → List Exit → List Exit
record_pushed (Record.Value a) k exits = exits
record_pushed (Base column b) k exits = exits
record_pushed (Compound c) k exits = compound_pushed c k exits
record_pushed Unknown k exits = exits
