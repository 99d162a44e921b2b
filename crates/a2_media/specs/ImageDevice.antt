-- The device over the sectors or the blocks of an image.
use Rattle.std.specs.Prelude.{◌≡◌, ◌<◌, ℕ, true, List, [], length, replicate, Option, Some, None, slice_set, unwrap_or}
use Rattle.std.proofs.Common.{◌∙◌, refl, sym, ap, subst}
use Rattle.std.proofs.lemmas.List.{get_or-map, length-map, length-replicate}
use Rattle.a2_image.specs.Image.{DiskImage, IsOfDisk, block_count}
use Rattle.a2_image.specs.Blocks.{blocks}
use Rattle.a2_media.specs.declared.units.UnitKind.{UnitKind}
use Rattle.a2_media.specs.declared.units.UnitKind.TheVariants.{Sector, Block}
use Rattle.a2_device.specs.Device.{DeviceState, unit_at, IsWhole}
use Rattle.a2_media.specs.DosPlaces.{sectors_by_place}
use Rattle.a2_media.specs.Units.{unit_in, stored_units, unreadable_places, AreUnits}

-- the size of a unit
abbrev pub unit_bytes : UnitKind → ℕ
unit_bytes Sector = 256
unit_bytes Block = 512

-- how many places an image has
abbrev pub place_count : UnitKind → DiskImage → ℕ
place_count Sector image = 560
place_count Block image = block_count image

-- an image that has such units: the sectors are those of a disk, and each image has blocks
abbrev pub HasUnits : UnitKind → DiskImage → Type 0
HasUnits kind image = kind ≡ Sector → IsOfDisk image

-- the units of an image by place
abbrev pub units_of : UnitKind → DiskImage → List (Option (List ℕ))
units_of Sector image = sectors_by_place image.sectors
units_of Block image = blocks image

-- An image by place, after so many writes, of which so many stand, and so many faults. A call fails at a place that
-- can't be read, and at no other.
abbrev pub image_state : UnitKind → DiskImage → ℕ → ℕ → ℕ → DeviceState
image_state kind image writes standing faults = record {
  places = place_count kind image;
  unit_size = unit_bytes kind;
  image = Some (record { order = image.order; bytes = length image.bytes; kept = image.kept });
  writes = writes;
  faults = faults;
  honest = true;
  store = stored_units (unit_bytes kind) (units_of kind image);
  unreadable = unreadable_places (units_of kind image);
  read_failures = Some 0;
  write_failures = Some [];
  passes = None;
  standing = standing;
}

-- an image of which the unit at a place was written over
pub record IsWritten (kind : UnitKind) (place : ℕ) (unit : List ℕ) (old new : DiskImage) : Type 0 where
  pub order : new.order ≡ old.order
  pub long : length new.bytes ≡ length old.bytes
  pub kept : new.kept ≡ old.kept
  pub places : place_count kind new ≡ place_count kind old
  pub stored : stored_units (unit_bytes kind) (units_of kind new)
      ≡ slice_set (stored_units (unit_bytes kind) (units_of kind old)) place unit
  pub unreadable : unreadable_places (units_of kind new) ≡ unreadable_places (units_of kind old)
  pub has : HasUnits kind new
  pub units : AreUnits (unit_bytes kind) (place_count kind new) (units_of kind new)

-- units that are those of a device
pub record AreUnitsOf (device : DeviceState) (units : List (Option (List ℕ))) : Type 0 where
  pub store : device.store ≡ stored_units device.unit_size units
  pub unreadable : device.unreadable ≡ unreadable_places units

pub length-stored_units : (size : ℕ) (units : List (Option (List ℕ))) → length (stored_units size units) ≡ length units
unfolding stored_units
length-stored_units size units = length-map units (λ unit. unwrap_or unit (replicate size 0))

pub unit_at-stored_units : (size : ℕ) (units : List (Option (List ℕ))) (place : ℕ) → place < length units
    → unit_at (stored_units size units) place ≡ unwrap_or (unit_in units place) (replicate size 0)
unfolding stored_units
unit_at-stored_units size units place within =
    get_or-map (λ unit. unwrap_or unit (replicate size 0)) units place None [] within

-- each place has a unit
pub whole_image : (kind : UnitKind) (image : DiskImage) (writes standing faults : ℕ)
    → AreUnits (unit_bytes kind) (place_count kind image) (units_of kind image)
    → IsWhole (image_state kind image writes standing faults)
whole_image kind image writes standing faults are = record {
  all = length-stored_units size units ∙ are.count;
  units = λ place within. ap length
      (unit_at-stored_units size units place (subst (λ n. place < n) (sym are.count) within))
      ∙ sized place within (unit_in units place) refl;
}
  where
    size : ℕ
    size = unit_bytes kind

    units : List (Option (List ℕ))
    units = units_of kind image

    sized : (place : ℕ) → place < place_count kind image → (unit : Option (List ℕ)) → unit_in units place ≡ unit
        → length (unwrap_or unit (replicate size 0)) ≡ size
    sized place within (Some unit) is = are.sized place unit within is
    sized place within None is = length-replicate size 0
