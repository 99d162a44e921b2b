-- The sectors of a track: which fields count, and what a write leaves of them.
use Rattle.std.specs.Prelude.{◌≡◌, ◌≢◌, ℕ, ◌+◌, ◌%◌, ◌<◌, ◌↔◌, ◌⊎◌, List, [], ◌∷◌}
use Rattle.a2_nibble.specs.Field.{IsDataField, IsEncoded, Gives}
use Rattle.a2_nibble.specs.Address.{address_field}
use Rattle.a2_nibble.specs.Track.{nibble_at, StandsAt, field_at, SameOutside}

-- how a data field begins
abbrev pub data_mark : List ℕ
data_mark = 0xD5 ∷ 0xAA ∷ 0xAD ∷ []

-- the first D5 of the 64 bytes from start on begins a data field, whose disk bytes begin at data_at
pub record HasMark (nibbles : List ℕ) (start data_at : ℕ) : Type 0 where
  pub gap : ℕ
  pub near : gap < 64
  pub first : (k : ℕ) → k < gap → nibble_at nibbles (start + k) ≢ 0xD5
  pub mark : StandsAt nibbles (start + gap) data_mark
  pub behind : data_at ≡ (start + gap + 3) % 6656

-- an address field of the sector stands at a place and its data field counts, epilogues aside
pub record IsFieldFrom (nibbles : List ℕ) (track sector place volume data_at : ℕ) : Type 0 where
  pub volume_fits : volume < 256
  pub address : StandsAt nibbles place (address_field volume track sector)
  pub mark : HasMark nibbles (place + 11) data_at
  pub counts : IsDataField (field_at nibbles data_at)

-- the field of a sector: from the least place where both count
pub record IsFieldOf (nibbles : List ℕ) (track sector volume data_at : ℕ) : Type 0 where
  pub place : ℕ
  pub on_track : place < 6656
  pub counts : IsFieldFrom nibbles track sector place volume data_at
  pub least : (q : ℕ) → q < place → (v d : ℕ) → IsFieldFrom nibbles track sector q v d → ⊥

-- the content of a sector
pub record SectorOf (nibbles : List ℕ) (track sector : ℕ) (content : List ℕ) : Type 0 where
  pub volume : ℕ
  pub data_at : ℕ
  pub field : IsFieldOf nibbles track sector volume data_at
  pub gives : Gives (field_at nibbles data_at) content

-- the sector has no content
abbrev pub HasNoSector : List ℕ → ℕ → ℕ → Type 0
HasNoSector nibbles track sector = (content : List ℕ) → SectorOf nibbles track sector content → ⊥

-- new is old with the content written over the 343 bytes of the sector's field
pub record WritesSector (old new : List ℕ) (track sector : ℕ) (content : List ℕ) : Type 0 where
  pub volume : ℕ
  pub data_at : ℕ
  pub field : IsFieldOf old track sector volume data_at
  pub written : IsEncoded content (field_at new data_at)
  pub others : SameOutside old new data_at

-- a sector has the same content, or none, on both tracks
abbrev pub SameSector : List ℕ → List ℕ → ℕ → ℕ → Type 0
SameSector old new track sector =
    (content : List ℕ) → SectorOf old track sector content ↔ SectorOf new track sector content

-- every sector has the same field, or none, on both tracks; every other one the same content, or none
pub record KeepsOthers (old new : List ℕ) (track sector : ℕ) : Type 0 where
  pub fields : (t s volume data_at : ℕ) →
      IsFieldOf old t s volume data_at ↔ IsFieldOf new t s volume data_at
  pub contents : (t s : ℕ) → t < 256 → s < 256 → (t ≢ track) ⊎ (s ≢ sector) →
      SameSector old new t s
