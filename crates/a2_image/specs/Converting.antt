-- The sectors of an image in another order.
use Rattle.std.specs.Prelude.{◌≡◌, ℕ, ◌+◌, ◌*◌, ◌%◌, ◌<◌, List, [], length, Option, Some, None, slice_index_or}
use Rattle.a2_nibble.specs.declared.search.Field.{Field}
use Rattle.a2_nibble.specs.MadeTrack.{IsMadeTrack}
use Rattle.a2_image.specs.declared.error.ImageError.{ImageError}
use Rattle.a2_image.specs.declared.error.ImageError.TheVariants.{Length, Memory, Number, NoSector}
use Rattle.a2_image.specs.Image.{DiskImage, IsOfDisk, HasSector, LacksSector, sector_in}

-- each sector of the disk is there, and one is not
abbrev pub HasAll : DiskImage → Type 0
HasAll image = (track sector : ℕ) → track < 35 → sector < 16 → HasSector image track sector

abbrev pub LacksSome : DiskImage → Type 0
LacksSome image = (track : ℕ) × (sector : ℕ) × LacksSector image track sector

-- each refusal, and when it comes
abbrev pub RefusesToConvert : DiskImage → ImageError → Type 0
RefusesToConvert image Length = IsOfDisk image → ⊥
RefusesToConvert image Memory = IsOfDisk image
RefusesToConvert image Number = ⊥
RefusesToConvert image NoSector = LacksSome image

-- the sectors of a track, one behind the other
pub record AreContents (sectors : List (Option (List ℕ))) (track : ℕ) (contents : List (List ℕ)) : Type 0 where
  pub sixteen : length contents ≡ 16
  pub are : (sector : ℕ) → sector < 16 → sector_in sectors track sector ≡ Some (slice_index_or contents sector [])

-- a track that is made of the sectors
pub record MakesTrack (nibbles : List ℕ) (volume track : ℕ) (sectors : List (Option (List ℕ))) : Type 0 where
  pub contents : List (List ℕ)
  pub are : AreContents sectors track contents
  pub made : IsMadeTrack nibbles volume track contents

-- where the sectors of made tracks stand
pub record AreMadeFields (volume : ℕ) (fields : List (Option Field)) : Type 0 where
  pub count : length fields ≡ 560
  pub are : (n : ℕ) → n < 560 →
      slice_index_or fields n None ≡ Some (record { data_at = 71 + 396 * (n % 16); volume = volume })
