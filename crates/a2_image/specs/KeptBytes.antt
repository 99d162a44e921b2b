-- The bytes of an image that no write of a sector or of a block may change.
use Rattle.std.specs.Prelude.{◌≡◌, ℕ, ◌/◌, ◌%◌, ◌<◌, List, length, replicate, Option, Some, None, slice_index, slice_index_or}
use Rattle.a2_nibble.specs.Sector.{IsFieldOf}
use Rattle.a2_nibble.specs.Track.{behind}
use Rattle.a2_device.specs.declared.order.Order.{Order}
use Rattle.a2_device.specs.declared.order.Order.TheVariants.{Dos, Prodos, Nibble}
use Rattle.a2_image.specs.Tracks.{track_of}

-- a byte of an image in nibble order that is one of the 343 disk bytes of a sector of its track
pub record IsDataByte (bytes : List ℕ) (n : ℕ) : Type 0 where
  pub sector : ℕ
  pub sector_fits : sector < 16
  pub volume : ℕ
  pub data_at : ℕ
  pub field : IsFieldOf (track_of bytes (n / 6656)) (n / 6656) sector volume data_at
  pub within : behind data_at (n % 6656) < 343

-- what is kept at a byte: nothing where it is one of those, else the byte
abbrev pub KeepsByte : List ℕ → ℕ → Option ℕ → Type 0
KeepsByte bytes n None = IsDataByte bytes n
KeepsByte bytes n (Some byte) = (IsDataByte bytes n → ⊥) × (byte ≡ slice_index bytes n)

-- the kept bytes of the tracks
pub record HoldsKeptOfTracks (bytes : List ℕ) (kept : List (Option ℕ)) : Type 0 where
  pub count : length kept ≡ length bytes
  pub each : (n : ℕ) → n < length bytes → KeepsByte bytes n (slice_index_or kept n None)

-- the bytes that no write may change, each at its place; in another order than that of the tracks each byte is a
-- sector's or a block's
unfoldable pub HoldsKept : Order → List ℕ → List (Option ℕ) → Type 0
HoldsKept Dos bytes kept = kept ≡ replicate (length bytes) None
HoldsKept Prodos bytes kept = kept ≡ replicate (length bytes) None
HoldsKept Nibble bytes kept = HoldsKeptOfTracks bytes kept
