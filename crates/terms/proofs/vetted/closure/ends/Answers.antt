use Rattle.std.proofs.Common.{◌≡◌, ℕ, ◌<◌, length, length-set, arith}
use Rattle.laws.specs.Fill.{fill_more}
use Rattle.terms.specs.Closure.{end_word}
use Rattle.terms.proofs.vetted.closure.ends.Goals as goal

pub loop-a-preserved : goal.loop-a-preserved
loop-a-preserved c =
    let a = c.args in
    let w : c.loop-a.a < length c.loop-a.x = omega (arith, c.loop-a.invariant.0) in (
      simp length-set c.loop-a.invariant.0,
      fill_more 0 (λ (b y : ℕ). y ≡ end_word a.table.now a.j b) c.loop-a.x c.loop-a.a c.end_word.result w c.loop-a.invariant.1 c.end_word.ensures,
    )
