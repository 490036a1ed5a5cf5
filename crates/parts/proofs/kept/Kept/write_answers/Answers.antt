use mathlib.Core.Path.{sym, ◌∙◌, ap}
use Prim.Native.Nat.{ℕ, ◌+◌}
use native.Mathlib.Omega.{arith}
use lib.Dec.{eqb}
use lib.ListN.{get_or}
use Rattle.laws.specs.Search.{count-bound}
use Rattle.parts.proofs.EntriesLaws.{count-zero, count-in, count-out, fill-zero, entry-put, entry-own, entry_named}
use Rattle.parts.proofs.kept.Kept.write_answers.Goals as goal
use Rattle.parts.proofs.kept.Kept.write_answers.Goals.{then-self-i-eq0, else-self-i-eq0}

pub loop-i-init : goal.loop-i-init
loop-i-init c = record { counted = sym (count-zero c.args.self.now.gone.now); written = sym (fill-zero _ _) }

pub overflow_add-kept : goal.overflow_add-kept
overflow_add-kept c =
    omega (arith, count-bound c.loop-i.i (λ j. eqb (get_or c.args.self.now.gone.now j 0) 0))

pub loop-i-preserved : goal.loop-i-preserved
loop-i-preserved c =
    let v = c.loop-i.invariant in
    let gone = c.args.self.now.gone.now in
    elim c.if-self-i-eq0.branch [
      | then-self-i-eq0 w ↦ record {
        counted = w.kept-is ∙ ap (λ (x : ℕ). x + 1) v.counted ∙ count-in gone _ w.if-self-i-eq0.true;
        written = w.answers-is ∙ entry-put _ _ _ _ v.written (entry-own _ _ _ w.if-self-i-eq0.true);
      }
      | else-self-i-eq0 w ↦ record {
        counted = w.kept-is ∙ v.counted ∙ count-out gone _ w.if-self-i-eq0.false;
        written = w.answers-is ∙ entry-put _ _ _ _ v.written (entry_named _ _ _ w.if-self-i-eq0.false);
      }
    ]
