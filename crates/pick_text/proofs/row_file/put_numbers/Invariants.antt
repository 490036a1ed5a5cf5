-- `pick_text::row_file::put_numbers` meets its contract: the first i numbers stand.
use Rattle.std.specs.Prelude.{◌≡◌, take}
use Rattle.model.specs.Bytes.{numbers}
use Rattle.pick_text.proofs.row_file.put_numbers.Given as goal

abbrev pub invariant-loop-i : goal.invariant-loop-i
invariant-loop-i l = take l.i l.run ≡ numbers l.bytes l.i
