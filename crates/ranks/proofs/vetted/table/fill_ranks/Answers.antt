use mathlib.Core.Path.{sym, ◌∙◌}
use mathlib.Core.Bool.{false≢true}
use native.Mathlib.Omega.{arith}
use Rattle.ranks.proofs.Filled.{ranked-all, ranked-other}
use Rattle.ranks.proofs.vetted.table.fill_ranks.Goals.{then-marks-k+in-Base, then-marks-k+in_default, else-marks-k}
use Rattle.ranks.proofs.vetted.table.fill_ranks.Goals as goal

pub loop-k-preserved : goal.loop-k-preserved
loop-k-preserved c =
    elim c.if-marks-k.branch [
      | then-marks-k+in-Base w ↦ rw w.ranks-is
          (ranked-all c.args.rows.now.n (sym w.record.ensures ∙ w.in-Base.is) (omega arith) w.fill_column.ensures c.loop-k.invariant)
      | then-marks-k+in_default w ↦ rw w.ranks-is
          (ranked-other (λ column t m e. w.in_default.not-Base column t (w.record.ensures ∙ e)) c.loop-k.invariant)
      | else-marks-k w ↦ rw w.ranks-is (ranked-other (λ column t m e. false≢true (sym w.if-marks-k.false ∙ m)) c.loop-k.invariant)
    ]
