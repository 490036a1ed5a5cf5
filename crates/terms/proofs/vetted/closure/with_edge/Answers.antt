use Rattle.std.proofs.Common.{◌≡◌, Bool, false, List, [], ℕ, ◌<◌, length, length-set, get_or, arith, refl, not-suc-le-zero}
use Rattle.laws.specs.Fill.{fill_more}
use Rattle.terms.specs.Closure.{cell_at, reaches_at, reached_at, cell_with}
use Rattle.terms.proofs.vetted.closure.with_edge.Goals as goal

pub loop-a-preserved : goal.loop-a-preserved
unfolding cell_with reaches_at reached_at
loop-a-preserved c =
    let p = c.args in
    let w : c.loop-a.a < length c.loop-a.h = omega (arith, c.loop-a.invariant.0) in (
      simp length-set c.loop-a.invariant.0,
      fill_more [] (λ (i : ℕ) (y : List Bool). (b : ℕ) → b < 32 → get_or y b false ≡ cell_with p.x.now p.g.now p.e i b)
          c.loop-a.h c.loop-a.a c.row_with.result w c.loop-a.invariant.1
          (λ b k. rw (c.row_with.ensures b k, c.reached-to.ensures b k)),
    )

pub loop-a-init : goal.loop-a-init
loop-a-init c = (refl, λ b l. absurd (not-suc-le-zero l))

pub returns : goal.returns
unfolding cell_at
returns c = λ a b h k.
    let w : a < c.loop-a.a = omega arith in
    c.loop-a.invariant.1 a w b k
