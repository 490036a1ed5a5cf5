-- What it is that a text was put into a buffer.
use Rattle.std.specs.Prelude.{◌≡◌, List, ◌++◌, ℕ, ◌+◌, length, take, ◌≤◌}
use Rattle.pick_text.specs.declared.fields.Text.{Text}

-- Up to its new place the buffer is the one before up to the old place, and then the text, which has at most `most` bytes.
pub record Wrote (before : Text) (text : List ℕ) (most : ℕ) (after : Text) : Type 0 where
  pub same_buffer : after.out.ghost_name ≡ before.out.ghost_name
  pub is : take after.at after.out.now ≡ take before.at before.out.now ++ text
  pub no_more : after.at ≤ before.at + most
  pub long : length after.out.now ≡ length before.out.now
