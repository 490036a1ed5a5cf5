-- The words that the other files are written in: the library's tests, numbers and lists, and the types of src/.
pub use Rattle.std.specs.Prelude.{Bool, true, false, not, cond, ◌&&◌, ◌||◌, ℕ, zero, suc, ◌+◌, ◌*◌, ◌-◌, ◌/◌, ◌%◌, ◌^◌, ◌<◌, ◌≤◌, List, [], ◌∷◌, ◌++◌, ltb, leb, eqb, ℤ, pos, negsuc, nat_abs, ◌-ℤ◌, length, get_or, take, drop, set, Option, Some, None, Result, Ok, Err, ⊤}
pub use Rattle.std.specs.Int.Bits.{bit_or}
pub use Rattle.std.specs.Int.Signed.{lt_z, mag}
pub use Rattle.model.specs.declared.{Value.Value, BaseTerm.BaseTerm, Pair.Pair, CompoundTerm.CompoundTerm}
pub use Rattle.model.specs.declared.{Record.Record, Refusal.Refusal}
pub use Rattle.model.specs.declared.{Summary.Summary, Outcome.Outcome, Mark.Mark}
pub use Rattle.model.specs.declared.BaseTerm.TheVariants.{Lowest, Highest, Around, Between}
pub use Rattle.model.specs.declared.BaseTerm.TheVariants.{Pos, Neg, PosNeg, PosPos, Explicit, Any}
pub use Rattle.model.specs.declared.Pair.TheVariants.{Pareto, Prior, Both}
pub use Rattle.model.specs.declared.CompoundTerm.TheVariants.{Joined, Dual}
pub use Rattle.model.specs.declared.Record.TheVariants.{Base, Compound, Unknown}

-- What the tests of a call come to, `Ok tt` where none refuses, and what the calls reply (src/).
abbrev pub Verdict : Type 0
Verdict = Result ⊤ Refusal

abbrev pub CheckReply : Type 0
CheckReply = Result Summary Refusal

abbrev pub CompareReply : Type 0
CompareReply = Result Outcome Refusal

abbrev pub QueryReply : Type 0
QueryReply = Result ℕ Refusal

abbrev pub PerfectReply : Type 0
PerfectReply = Result Mark Refusal
