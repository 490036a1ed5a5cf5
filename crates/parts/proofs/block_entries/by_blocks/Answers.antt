-- `parts::block_entries::by_blocks` meets its contract.
use mathlib.Core.Path.{◌≡◌, ◌∙◌, ap}
use Prim.Native.Nat.{ℕ}
use native.Mathlib.Omega.{arith}
use lib.ListN.{replicate, length-replicate}
use Rattle.std.proofs.lemmas.List.{length-take-le}
use Rattle.parts.specs.Answers.{filled, no-rounds, rest-gone, no-firsts}
use Rattle.parts.proofs.block_entries.by_blocks.Goals as goal

pub eliminate-requires : goal.eliminate-requires
eliminate-requires c =
    let n = c.args.blocks.now.rows.n in
    let few = c.args.blocks.now.rows.few in
    let zeros : c.fill.new.self ≡ replicate n 0 =
    c.fill.ensures.after (λ y e. e) ∙ ap (λ (m : ℕ). replicate m 0) (length-take-le n _ few) in
    let w = filled 0 n _ few zeros in
    record {
      codes = omega (arith, length-replicate {A = ℕ} 8192 0);
      rounds = no-rounds _ n _ _ w;
      above = rest-gone n _ w;
      firsts = no-firsts _ _ _ few;
      keyed = c.requires.keyed;
    }
