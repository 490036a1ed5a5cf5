use Rattle.std.proofs.Common.{◌≡◌, refl, Bool, false, ◌||◌, ℕ, ◌<◌, length, length-set, get_or, arith}
use Rattle.laws.specs.Fill.{fill_more}
use Rattle.terms.proofs.vetted.closure.either.Goals as goal

pub loop-b-preserved : goal.loop-b-preserved
loop-b-preserved c =
    let a = c.args in
    let i = c.loop-b.b in
    let w : i < length c.loop-b.row = omega (arith, c.loop-b.invariant.0) in (
      simp length-set c.loop-b.invariant.0,
      fill_more false (λ (i : ℕ) (y : Bool). y ≡ (get_or a.p.now i false || get_or a.q.now i false)) c.loop-b.row i
          (get_or a.p.now i false || get_or a.q.now i false) w c.loop-b.invariant.1 refl,
    )
