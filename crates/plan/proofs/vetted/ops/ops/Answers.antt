use mathlib.Core.Path.{refl, ◌∙◌, ap}
use mathlib.Core.Logic.{⊎_elim}
use native.Mathlib.Omega.{arith}
use lib.ListN.{length-set}
use lib.Seq.{get_or-set_same, get_or-set_other}
use Rattle.laws.specs.Search.{lt-suc-cases}
use Rattle.plan.specs.Ops.{step_of}
use Rattle.plan.proofs.vetted.ops.ops.Goals as goal

pub loop-k-init : goal.loop-k-init
loop-k-init c = (refl, λ h d l. absurd (omega (arith, l)))

pub loop-k-preserved : goal.loop-k-preserved
loop-k-preserved c =
    let k = c.loop-k.k in
    let v = c.loop-k.invariant in (
      simp length-set v.0,
      λ h d l. ⊎_elim
          (λ o. get_or-set_other c.loop-k.steps k h _ d (λ q. omega (arith, o, q)) ∙ v.1 h d o)
          (λ q. rw q (get_or-set_same c.loop-k.steps k _ d (omega (arith, v.0)) ∙ c.step_of.ensures ∙ ap step_of c.record.ensures))
          (lt-suc-cases h k (omega (arith, l))),
    )

pub returns : goal.returns
returns c = let v = c.loop-k.invariant in record { room = v.0; each = λ k d l. v.1 k d (omega (arith, l)) }
