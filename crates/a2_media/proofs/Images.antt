-- The states of a device over an image.
use Rattle.std.proofs.Common.{◌≡◌, ◌≢◌, ℕ, ◌+◌, ◌*◌, ◌/◌, ◌%◌, ◌<◌, ◌≤◌, ◌++◌, Bool, true, false, List, length, map, set, get_or, Some, None, refl, sym, ◌∙◌, ap, subst, arith, length-append, length-set, length-take, length-drop}
use Rattle.std.specs.Prelude.{Contains, Option, ◌==◌, unwrap_or}
use Rattle.std.specs.List.{range_with_len}
use Rattle.std.proofs.lemmas.Bool.Decides.{nat_tests}
use Rattle.std.proofs.lemmas.List.{get_or-set_same, get_or-set_other}
use Rattle.std.proofs.lemmas.List.FromFn.{length-map-range_with_len, get_or-map-range_with_len, fill_by_all}
use Rattle.a2_device.specs.declared.order.Order.{Order}
use Rattle.a2_device.specs.declared.order.Order.TheVariants.{Dos, Prodos, Nibble}
use Rattle.a2_device.specs.Order.{IsImageLength, blocks_of}
use Rattle.a2_image.specs.Image.{DiskImage, HasSector, IsDisk, IsOfDisk, block_count, sector_in, zeros}
use Rattle.a2_image.specs.Blocks.{HasBlock, blocks, block_in, bytes_of_block, joined, sector_of_half}
use Rattle.a2_device.specs.Skew.{physical_of_dos, dos_of_physical, physical_of_half}
use Rattle.a2_image.proofs.BlockLemmas.{get_or-blocks, block_in-disk, block_in-stored}
use Rattle.a2_device.proofs.Skews.{physical_of_dos_fits, dos_of_physical-physical_of_dos}
use Rattle.a2_media.specs.declared.units.UnitKind.{UnitKind}
use Rattle.a2_media.specs.declared.units.UnitKind.TheVariants.{Sector, Block}
use Rattle.a2_media.specs.DosPlaces.{sector_at, sectors_by_place}
use Rattle.a2_device.specs.Device.{unit_at}
use Rattle.a2_media.specs.ImageDevice.{HasUnits, IsWritten, place_count, unit_bytes, units_of}
use Rattle.a2_media.specs.Units.{AreUnits, unit_in, stored_units, unreadable_places}
use Rattle.a2_media.proofs.Stored.{none-unreadable, unit_at-there, unreadable-none, unreadable-within, stored_units-set, unreadable_places-set, AreUnits-set}

-- the number of the sector at a place
abbrev pub number_at : ℕ → ℕ
number_at place = 16 * (place / 16) + physical_of_dos (place % 16)

-- no two places have one sector
place_once : (k n : ℕ) → number_at k ≡ number_at n → k ≡ n
place_once k n same =
    let low : k % 16 < 16 = omega arith in
    let low' : n % 16 < 16 = omega arith in
    let fits = physical_of_dos_fits (k % 16) low in
    let fits' = physical_of_dos_fits (n % 16) low' in
    let physical : physical_of_dos (k % 16) ≡ physical_of_dos (n % 16) = omega (arith, same, fits, fits') in
    let track : k / 16 ≡ n / 16 = omega (arith, same, fits, fits') in
    let sector = sym (dos_of_physical-physical_of_dos (k % 16) low) ∙ ap dos_of_physical physical ∙ dos_of_physical-physical_of_dos (n % 16) low' in
    omega (arith, track, sector)

pub unit_in-sectors_by_place : (sectors : List (Option (List ℕ))) (place : ℕ) → place < 560 → unit_in (sectors_by_place sectors) place ≡ sector_at sectors place
unfolding sectors_by_place
unit_in-sectors_by_place sectors place within = get_or-map-range_with_len (sector_at sectors) 0 560 place place None within (omega arith)

length-sectors_by_place : (sectors : List (Option (List ℕ))) → length (sectors_by_place sectors) ≡ 560
unfolding sectors_by_place
length-sectors_by_place sectors = length-map-range_with_len (sector_at sectors) 0 560

-- an image of which each sector is there has no place that can't be read
pub none_unreadable : (sectors : List (Option (List ℕ))) → ((place : ℕ) → place < 560 → sector_at sectors place ≢ None)
    → (place : ℕ) → Contains (unreadable_places (sectors_by_place sectors)) place → ⊥
none_unreadable sectors there place in' =
    let within : place < 560 = omega (arith, unreadable-within (sectors_by_place sectors) place in', length-sectors_by_place sectors) in
    there place within (sym (unit_in-sectors_by_place sectors place within) ∙ unreadable-none (sectors_by_place sectors) place in')

-- a sector is written over
pub sectors_by_place-set : (all : List (Option (List ℕ))) (place : ℕ) (unit : List ℕ) → length all ≡ 560 → place < 560
    → sectors_by_place (set all (number_at place) (Some unit)) ≡ set (sectors_by_place all) place (Some unit)
unfolding sectors_by_place
sectors_by_place-set all place unit whole within =
    sym (fill_by_all (sector_at (set all (number_at place) (Some unit))) (set by_place place (Some unit)) 560 None
    (length-set by_place place (Some unit) ∙ length-map-range_with_len (sector_at all) 0 560)
    (λ k h. each k h (k == place) refl))
  where
    by_place : List (Option (List ℕ))
    by_place = map (sector_at all) (range_with_len 0 560)

    each : (k : ℕ) → k < 560 → (same : Bool) → (k == place) ≡ same
        → get_or (set by_place place (Some unit)) k None ≡ sector_at (set all (number_at place) (Some unit)) k
    each k h true test =
        let same : place ≡ k = grind (arith, nat_tests) in
        let fits = physical_of_dos_fits (place % 16) (omega arith) in
        let number : number_at place < length all = omega (arith, fits, whole, within) in
        subst (λ j. get_or (set by_place place (Some unit)) j None ≡ sector_at (set all (number_at place) (Some unit)) j) same
        (get_or-set_same by_place place (Some unit) None (omega (arith, within, length-map-range_with_len (sector_at all) 0 560))
        ∙ sym (get_or-set_same all (number_at place) (Some unit) None number))
    each k h false test =
        let differ : k ≢ place = grind (arith, nat_tests) in
        get_or-set_other by_place place k (Some unit) None differ
        ∙ get_or-map-range_with_len (sector_at all) 0 560 k k None h (omega arith)
        ∙ sym (get_or-set_other all (number_at place) (number_at k) (Some unit) None (λ same. differ (place_once k place same)))

length-blocks : (image : DiskImage) → length (blocks image) ≡ block_count image
unfolding blocks
length-blocks image = length-map-range_with_len (block_in image) 0 (block_count image)

-- what is there of a disk has the size of a sector
pub AreUnits-sectors_by_place : (image : DiskImage) → IsDisk image.sectors → AreUnits 256 560 (sectors_by_place image.sectors)
AreUnits-sectors_by_place image disk = record {
  count = length-sectors_by_place image.sectors;
  sized = λ place unit within is.
      let there = sym (unit_in-sectors_by_place image.sectors place within) ∙ is in
      ap length (sym (ap (λ u. unwrap_or u zeros) there)) ∙ disk.size (place / 16) (physical_of_dos (place % 16));
}

block_long : (bytes : List ℕ) (block : ℕ) → 512 * block + 512 ≤ length bytes → length (bytes_of_block bytes block) ≡ 512
block_long bytes block fits = simp (length-take, length-drop) (omega (arith, fits))

-- a block of two sectors
joined_long : (front rear : Option (List ℕ)) (unit : List ℕ) → length (unwrap_or front zeros) ≡ 256 → length (unwrap_or rear zeros) ≡ 256
    → joined front rear ≡ Some unit → length unit ≡ 512
joined_long None rear unit h h' is = absurd (cc)
joined_long (Some front) None unit h h' is = absurd (cc)
joined_long (Some front) (Some rear) unit h h' is =
    let same : unit ≡ front ++ rear = cc in
    ap length same ∙ omega (arith, length-append front rear)

-- a block of an image of another size than a disk lies in it
block_within : (order : Order) (bytes block : ℕ) → IsImageLength order bytes → blocks_of order bytes ≢ 280 → block < blocks_of order bytes → 512 * block + 512 ≤ bytes
unfolding IsImageLength blocks_of
block_within Dos bytes block long other within = absurd (other refl)
block_within Prodos bytes block long other within = omega (arith, within)
block_within Nibble bytes block long other within = absurd (other refl)

pub AreUnits-blocks : (image : DiskImage) → IsImageLength image.order (length image.bytes) → (IsOfDisk image → IsDisk image.sectors) → AreUnits 512 (block_count image) (blocks image)
AreUnits-blocks image long disk = record {
  count = length-blocks image;
  sized = λ place unit within is. each place unit within (sym (get_or-blocks image place within) ∙ is) (block_count image == 280) refl;
}
  where
    each : (place : ℕ) (unit : List ℕ) → place < block_count image → block_in image place ≡ Some unit → (whole : Bool) → (block_count image == 280) ≡ whole → length unit ≡ 512
    each place unit within is true test =
        let is_disk : block_count image ≡ 280 = grind (arith, nat_tests) in
        let size = (disk is_disk).size in
        joined_long (get_or image.sectors (sector_of_half (2 * place)) None) (get_or image.sectors (sector_of_half (2 * place + 1)) None) unit
        (size (2 * place / 16) (physical_of_half (2 * place % 16))) (size ((2 * place + 1) / 16) (physical_of_half ((2 * place + 1) % 16)))
        (sym (block_in-disk image place is_disk) ∙ is)
    each place unit within is false test =
        let other : block_count image ≢ 280 = grind (arith, nat_tests) in
        let one : Some (bytes_of_block image.bytes place) ≡ Some unit = sym (block_in-stored image place other) ∙ is in
        let same : unit ≡ bytes_of_block image.bytes place = cc in
        let fits = block_within image.order (length image.bytes) place long other within in
        ap length same ∙ block_long image.bytes place fits

-- a unit that an image has not
pub lacks_sector : (image : DiskImage) (place track sector : ℕ) → place < 560 → IsOfDisk image → track < 35 → sector < 16 → track ≡ place / 16 → sector ≡ physical_of_dos (place % 16)
    → (HasSector image track sector → ⊥) → unit_in (sectors_by_place image.sectors) place ≡ None
lacks_sector image place track sector within disk track_fits sector_fits at at' lacks =
    unit_in-sectors_by_place image.sectors place within ∙ ap (λ t. sector_in image.sectors t (physical_of_dos (place % 16))) (sym at) ∙ ap (sector_in image.sectors track) (sym at')
    ∙ none (sector_in image.sectors track sector) refl
  where
    none : (content : Option (List ℕ)) → sector_in image.sectors track sector ≡ content → content ≡ None
    none None is = refl
    none (Some content) is = absurd (lacks (record {
      track_fits = track_fits;
      sector_fits = sector_fits;
      disk = disk;
      has = λ e. let never : Some content ≡ None = sym is ∙ e in absurd (cc);
    }))

pub lacks_block : (image : DiskImage) (number : ℕ) → number < block_count image → (HasBlock image number → ⊥) → unit_in (blocks image) number ≡ None
lacks_block image number within lacks = get_or-blocks image number within ∙ none (block_in image number) refl
  where
    none : (block : Option (List ℕ)) → block_in image number ≡ block → block ≡ None
    none None is = refl
    none (Some block) is = absurd (lacks (record { within = within; has = λ e. let never : Some block ≡ None = sym is ∙ e in absurd (cc) }))

-- the sector at a place
pub sector_there : (sectors : List (Option (List ℕ))) (place track sector : ℕ) (content : Option (List ℕ)) → place < 560 → track ≡ place / 16 → sector ≡ physical_of_dos (place % 16)
    → sector_in sectors track sector ≡ content → unit_in (sectors_by_place sectors) place ≡ content
sector_there sectors place track sector content within at at' is =
    unit_in-sectors_by_place sectors place within ∙ ap (λ t. sector_in sectors t (physical_of_dos (place % 16))) (sym at) ∙ ap (sector_in sectors track) (sym at') ∙ is

pub has_sector : (image : DiskImage) (place track sector : ℕ) → place < 560 → track ≡ place / 16 → sector ≡ physical_of_dos (place % 16)
    → HasSector image track sector → unit_in (sectors_by_place image.sectors) place ≢ None
has_sector image place track sector within at at' there = λ none. there.has (sym (sector_there image.sectors place track sector _ within at at' refl) ∙ none)

place_count-kept : (kind : UnitKind) (old new : DiskImage) → new.order ≡ old.order → length new.bytes ≡ length old.bytes → place_count kind new ≡ place_count kind old
place_count-kept Sector old new order long = refl
place_count-kept Block old new order long = ap (blocks_of new.order) long ∙ ap (λ o. blocks_of o (length old.bytes)) order

pub HasUnits-kept : (kind : UnitKind) (old new : DiskImage) → new.order ≡ old.order → length new.bytes ≡ length old.bytes → HasUnits kind old → HasUnits kind new
HasUnits-kept kind old new order long has = λ is. place_count-kept Block old new order long ∙ has is

pub among : (kind : UnitKind) (image : DiskImage) (place : ℕ) → AreUnits (unit_bytes kind) (place_count kind image) (units_of kind image)
    → place < place_count kind image → place < length (units_of kind image)
among kind image place are within = omega (arith, within, are.count)

-- a unit that can be read, and one that can't
module _ (kind : UnitKind) (image : DiskImage) (place : ℕ) (are : AreUnits (unit_bytes kind) (place_count kind image) (units_of kind image)) (within : place < place_count kind image) where
  pub value_read : (unit : List ℕ) → unit_in (units_of kind image) place ≡ Some unit → unit ≡ unit_at (stored_units (unit_bytes kind) (units_of kind image)) place
  value_read unit is = sym (unit_at-there (unit_bytes kind) (units_of kind image) place unit (among kind image place are within) is)

  pub is_readable : unit_in (units_of kind image) place ≢ None → Contains (unreadable_places (units_of kind image)) place → ⊥
  is_readable has in' = has (unreadable-none (units_of kind image) place in')

  pub is_unreadable : unit_in (units_of kind image) place ≡ None → Contains (unreadable_places (units_of kind image)) place
  is_unreadable none = none-unreadable (units_of kind image) place (among kind image place are within) none

-- a unit that was there is written over
pub is_written : (kind : UnitKind) (old new : DiskImage) (place : ℕ) (unit : List ℕ) → AreUnits (unit_bytes kind) (place_count kind old) (units_of kind old)
    → place < place_count kind old → HasUnits kind old → length unit ≡ unit_bytes kind → new.order ≡ old.order → length new.bytes ≡ length old.bytes → new.kept ≡ old.kept
    → units_of kind new ≡ set (units_of kind old) place (Some unit) → unit_in (units_of kind old) place ≢ None → IsWritten kind place unit old new
is_written kind old new place unit are within has sized order long kept is there =
    let size = unit_bytes kind in
    let units = units_of kind old in
    let below = among kind old place are within in
    let same = place_count-kept kind old new order long in
    record {
      order = order;
      long = long;
      kept = kept;
      places = same;
      stored = ap (stored_units size) is ∙ stored_units-set size units place unit;
      unreadable = ap unreadable_places is ∙ unreadable_places-set units place unit below there;
      has = HasUnits-kept kind old new order long has;
      units = subst (λ n. AreUnits size n (units_of kind new)) (sym same)
          (subst (AreUnits size (place_count kind old)) (sym is) (AreUnits-set units place unit size (place_count kind old) below are sized));
    }
