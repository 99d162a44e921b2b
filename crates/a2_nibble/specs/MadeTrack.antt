-- A track as it is made from 16 contents.
use Rattle.std.specs.Prelude.{◌≡◌, ℕ, ◌+◌, ◌*◌, ◌<◌, ◌≤◌, ◌⊎◌, List, [], ◌∷◌, slice_get, replicate, Some}
use Rattle.a2_nibble.specs.Field.{IsEncoded}
use Rattle.a2_nibble.specs.Address.{address_field}
use Rattle.a2_nibble.specs.Track.{StandsAt, field_at}
use Rattle.a2_nibble.specs.Sector.{data_mark}

-- how a field ends
abbrev pub epilogue : List ℕ
epilogue = 0xDE ∷ 0xAA ∷ 0xEB ∷ []

-- what stands between fields
abbrev pub gap_of : ℕ → List ℕ
gap_of n = replicate n 0xFF

-- the 396 bytes of a sector
pub record IsSectorAt (nibbles : List ℕ) (place volume track sector : ℕ) (content : List ℕ) : Type 0 where
  pub address : StandsAt nibbles place (address_field volume track sector)
  pub address_end : StandsAt nibbles (place + 11) epilogue
  pub gap : StandsAt nibbles (place + 14) (gap_of 6)
  pub mark : StandsAt nibbles (place + 20) data_mark
  pub encoded : IsEncoded content (field_at nibbles (place + 23))
  pub data_end : StandsAt nibbles (place + 366) epilogue
  pub gap_after : StandsAt nibbles (place + 369) (gap_of 27)

-- a made track: a gap, the sectors in the order of their numbers, a gap
pub record IsMadeTrack (nibbles : List ℕ) (volume track : ℕ) (sectors : List (List ℕ)) : Type 0 where
  pub before : StandsAt nibbles 0 (gap_of 48)
  pub sector_at : (sector : ℕ) (content : List ℕ) → slice_get sectors sector ≡ Some content →
      IsSectorAt nibbles (48 + 396 * sector) volume track sector content
  pub after : StandsAt nibbles 6384 (gap_of 272)

-- a byte that the two fields of a sector leave alone
abbrev pub IsGap : ℕ → ℕ → Type 0
IsGap place q = (q < place) ⊎ ((place + 14 ≤ q) × (q < place + 20)) ⊎ (place + 369 ≤ q)
