-- What each record does in a comparison of two rows (SPECIFICATION, "When a row is better").
use Rattle.std.specs.Prelude.{◌≡◌, List, ℕ, ◌≤◌, length, get_or}
use Rattle.model.specs.declared.{BaseTerm.BaseTerm, Pair.Pair, Record.Record}
use Rattle.model.specs.declared.BaseTerm.TheVariants.{Lowest, Highest, Around, Between, Pos, Neg, PosNeg, PosPos, Explicit, Any}
use Rattle.model.specs.declared.CompoundTerm.TheVariants.{Joined, Dual}
use Rattle.model.specs.declared.Pair.TheVariants.{Pareto, Prior, Both}
use Rattle.model.specs.declared.Record.TheVariants.{Base, Compound, Unknown}
use Rattle.model.specs.Record.{record_at}
use Rattle.plan.specs.declared.vetted.ops.{Op.Op, Step.Step}

-- A base term goes by rank, but for EXPLICIT.
abbrev pub base_op : BaseTerm → Op
base_op Lowest = Op.ByRank
base_op Highest = Op.ByRank
base_op (Around wish) = Op.ByRank
base_op (Between low up) = Op.ByRank
base_op Pos = Op.ByRank
base_op Neg = Op.ByRank
base_op PosNeg = Op.ByRank
base_op PosPos = Op.ByRank
base_op Explicit = Op.Places
base_op Any = Op.ByRank

-- PARETO and BOTH join codes alike.
abbrev pub pair_op : Pair → Op
pair_op Pareto = Op.Join
pair_op Prior = Op.Prior
pair_op Both = Op.Join

-- The step of a record: with the column of a base term, the parts of a compound.
abbrev pub step_of : Record → Step
step_of (Record.Value a) = record { op = Op.ByRank; left = 0; right = 0 }
step_of (Base column b) = record { op = base_op b; left = column; right = 0 }
step_of (Compound (Joined op p q)) = record { op = pair_op op; left = p; right = q }
step_of (Compound (Dual p)) = record { op = Op.Dual; left = p; right = 0 }
step_of Unknown = record { op = Op.ByRank; left = 0; right = 0 }

-- Entry k is the step of record k, for each record up to the term.
pub record Ops (table : List ℕ) (term : ℕ) (steps : List Step) : Type 0 where
  pub room : length steps ≡ 128
  pub each : (k : ℕ) (d : Step) → k ≤ term → get_or steps k d ≡ step_of (record_at table k)
