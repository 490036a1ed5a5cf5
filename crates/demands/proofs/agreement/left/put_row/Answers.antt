-- `demands::agreement::left::put_row` meets its contract: after fewer than 1,024 rows there is room.
use Rattle.std.proofs.Common.{◌≡◌, ◌+◌, ◌-◌, ◌*◌, ◌++◌, length, take, drop, ◌∙◌, ap, arith}
use Rattle.std.proofs.lemmas.Slice.{take-put_mid}
use borrow.Rule.Slice.PartMut.{same_len_mid}
use native.Mathlib.Numerals.{add-one}
use lib.ListN.{length-set, length-drop}
use lib.Seq.{take-suc-set, length-take-le}
use Rattle.model.specs.Query.{row_at}
use Rattle.demands.proofs.Gathering.{placed-small}
use Rattle.demands.proofs.agreement.left.put_row.Goals as goal

pub returns : goal.returns
unfolding row_at
returns c =
    let a = c.args in
    let k = a.columns in
    let to = a.m * k in
    let s = placed-small k a.rows.now a.k a.m c.requires.0 in
    let f : a.k * k + k - a.k * k ≡ k = omega arith in
    let new = c.copy_from_slice.new.self in
    let is : new ≡ row_at k a.rows.now a.k = rw f at c.copy_from_slice.ensures.after in
    let long : length new ≡ k =
    ap (λ l. length l) is
    ∙ length-take-le k (drop (a.k * k) a.rows.now) (omega (arith, length-drop (a.k * k) a.rows.now, c.requires.0.in_run)) in (
      take-put_mid to (to + k - to) a.left.now new (to + k) (omega (arith, long)) (omega (arith, s, c.requires.1.cells))
          ∙ ap (λ l. take to a.left.now ++ l) is,
      rw add-one (take-suc-set a.old.now a.m a.k (omega (arith, c.requires.0.room, c.requires.1.numbers))),
      record {
        cells = same_len_mid to (to + k - to) a.left.now new c.copy_from_slice.ensures.len ∙ c.requires.1.cells;
        numbers = simp length-set c.requires.1.numbers;
      },
    )
