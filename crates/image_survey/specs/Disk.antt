-- The digest of a disk.
use Rattle.std.specs.Prelude.{◌≡◌, ◌<◌, ◌==◌, ℕ, List, Option, Some, None, if◌then◌else◌, length, map}
use Rattle.std.specs.List.{concat}
use Rattle.sha2.specs.Sha256.{sha256}
use Rattle.a2_image.specs.Blocks.{blocks}
use Rattle.a2_image.specs.Image.{DiskImage, block_count}
use Rattle.a2_media.specs.DosPlaces.{sectors_by_place}
use Rattle.a2_media.specs.Units.{unit_in}

-- what an image has at its places: of a disk the sectors as DOS numbers them, whatever the order of the image; of an
-- image of another size the blocks
abbrev pub units_of : DiskImage → List (Option (List ℕ))
units_of image = if block_count image == 280 then sectors_by_place image.sectors else blocks image

abbrev pub place_count : DiskImage → ℕ
place_count image = if block_count image == 280 then 560 else block_count image

-- each of them is there, and this is the digest of their bytes, one behind the other
pub record IsDigestOfAll (units : List (Option (List ℕ))) (digest : List ℕ) : Type 0 where
  pub contents : List (List ℕ)
  pub all : units ≡ map Some contents
  pub is : digest ≡ sha256 (concat contents)

-- one of them is missing
pub record LacksOne (units : List (Option (List ℕ))) : Type 0 where
  pub place : ℕ
  pub within : place < length units
  pub lacks : unit_in units place ≡ None

abbrev pub IsDigestOf : List (Option (List ℕ)) → Option (List ℕ) → Type 0
IsDigestOf units (Some digest) = IsDigestOfAll units digest
IsDigestOf units None = LacksOne units

-- the digest of all that is on the disk; none where a sector or a block is missing
abbrev pub IsDiskDigest : DiskImage → Option (List ℕ) → Type 0
IsDiskDigest image disk = IsDigestOf (units_of image) disk
