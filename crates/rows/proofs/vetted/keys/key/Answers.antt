-- `rows::vetted::keys::key` meets its contract.
use mir.Facts.{to_z-of_z}
use Rattle.rows.specs.Keys.{key_of}
use Rattle.rows.proofs.LowByte.{low-byte}
use Rattle.rows.proofs.vetted.keys.key.Goals as goal

pub returns : goal.returns
unfolding key_of
returns c = rw (c.cast_unsigned.ensures, to_z-of_z c.ranges.x) (low-byte c.args.x c.ranges.x)
