use Rattle.std.proofs.Common.{◌≡◌, refl, Bool, false, ℕ, ◌<◌, length, length-set, arith}
use Rattle.laws.specs.Fill.{fill_more}
use Rattle.terms.specs.Closure.{cell_at, reached_at}
use Rattle.terms.proofs.vetted.closure.reached.Goals as goal

pub loop-b-preserved : goal.loop-b-preserved
unfolding reached_at cell_at
loop-b-preserved c =
    let a = c.args in
    let i = c.loop-b.b in
    let w : i < length c.loop-b.to = omega (arith, c.loop-b.invariant.0) in (
      simp length-set c.loop-b.invariant.0,
      fill_more false (λ (i : ℕ) (y : Bool). y ≡ reached_at a.x.now a.g.now a.f i) c.loop-b.to i
          (reached_at a.x.now a.g.now a.f i) w c.loop-b.invariant.1 refl,
    )
