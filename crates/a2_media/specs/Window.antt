-- A part of a file as a file.
use Rattle.std.specs.Prelude.{◌≡◌, ℕ, ◌+◌, Option, None, Some, drop, slice_range, take}
use Rattle.a2_media.specs.declared.window.Extent.{Extent}
use Rattle.a2_media.specs.File.{FileState}

-- so many bytes of a file, from an offset on
abbrev pub window_state : ℕ → ℕ → FileState → FileState
window_state start size file = record file { size = size; bytes = slice_range file.bytes start (start + size) }

-- what stands in front of them and behind them is the same
pub record IsSameAround (start size : ℕ) (old new : FileState) : Type 0 where
  pub front : take start new.bytes ≡ take start old.bytes
  pub back : drop (start + size) new.bytes ≡ drop (start + size) old.bytes

-- where an image stands in a file of so many bytes: where that is said, or else all of them
abbrev pub image_extent : Option Extent → ℕ → Extent
image_extent (Some extent) bytes = extent
image_extent None bytes = record { start = 0; size = bytes }
