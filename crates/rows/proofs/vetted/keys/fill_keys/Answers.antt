use mathlib.Core.Path.{sym, ◌∙◌, ap}
use native.Mathlib.Omega.{arith}
use Rattle.rows.specs.Keys.{key_of, agree-lowest}
use Rattle.rows.specs.Places.{row-length}
use Rattle.rows.proofs.vetted.keys.fill_keys.Goals as goal

pub returns : goal.returns
returns c =
    let r = c.args in
    let v = c.loop-i.invariant in
    let long = row-length r.columns r.cells.now r.n c.requires.whole in
    record {
      each = λ i j h k e.
          v i (omega arith)
          ∙ ap key_of (agree-lowest c.args.group _ _ (omega arith) (omega (arith, c.requires.narrow, long i h)) (omega (arith, c.requires.narrow, long j k)) e)
          ∙ sym (v j (omega arith));
    }
