-- The sectors that an image in nibble order holds: 35 tracks of 6,656 disk bytes. (Beneath Apple DOS, chapter 3.)
use Rattle.std.specs.Prelude.{◌≡◌, ◌≢◌, ℕ, ◌+◌, ◌*◌, ◌<◌, List, length, Option, Some, None, slice_range, slice_index_or}
use Rattle.a2_nibble.specs.Sector.{SectorOf, HasNoSector, WritesSector}

-- the bytes of a track
abbrev pub track_of : List ℕ → ℕ → List ℕ
track_of bytes track = slice_range bytes (6656 * track) (6656 * track + 6656)

-- what a track has of a sector: its content, or nothing where it has no such sector
abbrev pub HoldsSector : List ℕ → ℕ → ℕ → Option (List ℕ) → Type 0
HoldsSector nibbles track sector (Some content) = SectorOf nibbles track sector content
HoldsSector nibbles track sector None = HasNoSector nibbles track sector

-- the sectors of the tracks
pub record HoldsTracks (bytes : List ℕ) (sectors : List (Option (List ℕ))) : Type 0 where
  pub count : length sectors ≡ 560
  pub each : (track sector : ℕ) → track < 35 → sector < 16 →
      HoldsSector (track_of bytes track) track sector (slice_index_or sectors (16 * track + sector) None)

-- one sector of one track is written, over the 343 bytes of its field; every other track is as it was
pub record WritesTrack (old new : List ℕ) (track sector : ℕ) (content : List ℕ) : Type 0 where
  pub writes : WritesSector (track_of old track) (track_of new track) track sector content
  pub others : (other : ℕ) → other ≢ track → track_of new other ≡ track_of old other
