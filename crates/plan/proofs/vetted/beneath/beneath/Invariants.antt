-- `plan::vetted::beneath::beneath` meets its contract: the marks before i are told by their masks, and then the parts of the
-- marked records from k on are marked.
use Rattle.std.specs.Prelude.{◌≡◌, ℕ, ◌<◌, get_or, length, not, false}
use Rattle.plan.specs.declared.vetted.exit_masks.Exit.TheVariants.{Nothing}
use Rattle.plan.specs.Told.{is_nothing}
use Rattle.plan.specs.Beneath.{MarkedFrom}
use Rattle.plan.proofs.vetted.beneath.beneath.Given as goal

abbrev pub invariant-loop-i : goal.invariant-loop-i
invariant-loop-i l =
    (length l.marks ≡ 128)
    × ((k : ℕ) → k < l.i → get_or l.marks k false ≡ not (is_nothing (get_or l.exits k Nothing)))

abbrev pub invariant-loop-k : goal.invariant-loop-k
invariant-loop-k l = MarkedFrom l.of.table.now l.term l.k l.exits l.marks
