-- The units of an image that stand one behind the other.
use Rattle.std.proofs.Common.{◌≡◌, ◌∙◌, ℕ, ◌+◌, ◌*◌, ◌/◌, ◌%◌, ◌-◌, ◌<◌, ◌≤◌, List, [], ◌∷◌, length, map, drop, take, get_or, Some, None, sym, ap, subst, refl, arith, inl, inr}
use Rattle.std.specs.Prelude.{Contains, Option, replicate, unwrap_or}
use Rattle.std.specs.List.{range_with_len}
use Rattle.std.proofs.lemmas.List.{drop-replicate, take-replicate, get_or-map, length-map, length-replicate}
use Rattle.std.proofs.lemmas.List.FromFn.{fill_by_all, get_or-map-range_with_len, length-map-range_with_len}
use Rattle.a2_device.specs.declared.order.Order.TheVariants.{Dos, Prodos}
use Rattle.a2_device.specs.Device.{DeviceState, FailsRead, unit_at}
use Rattle.a2_device.specs.Order.{blocks_of, in_track}
use Rattle.a2_device.specs.Skew.{dos_of_physical, physical_of_dos}
use Rattle.a2_device.proofs.Skews.{dos_of_physical-physical_of_dos, physical_of_dos_fits}
use Rattle.a2_image.specs.Blocks.{block_in, blocks, bytes_of_block}
use Rattle.a2_image.specs.Image.{DiskImage, HoldsSectors, block_count, bytes_of_sector, number_in, sectors_by}
use Rattle.a2_image.proofs.LawLemmas.{block_in-prodos}
use Rattle.a2_image.proofs.Sectors.{sector_in-sectors_by}
use Rattle.a2_media.specs.DosPlaces.{sector_at, sectors_by_place}
use Rattle.a2_media.specs.FileDevice.{file_unit, file_units}
use Rattle.a2_media.specs.ImageDevice.{units_of}
use Rattle.a2_media.specs.LentDevice.{lent_state}
use Rattle.a2_media.specs.Units.{stored_units, unreadable_places}
use Rattle.a2_media.specs.declared.units.UnitKind.{UnitKind}
use Rattle.a2_media.specs.declared.units.UnitKind.TheVariants.{Sector, Block}
use Rattle.a2_media.proofs.Stored.{unreadable-none, unreadable-within}
use Rattle.new_volumes.specs.Fields.{zeros}
use Rattle.new_volumes.specs.NewImage.{IsImageOf}

-- the unit at a place, and how many there are
pub unit_at-file_units : (size count : ℕ) (bytes : List ℕ) (place : ℕ) → place < count → unit_at (file_units size count bytes) place ≡ file_unit size bytes place
unit_at-file_units size count bytes place within = get_or-map-range_with_len (file_unit size bytes) 0 count place place [] within (omega arith)

pub length-file_units : (size count : ℕ) (bytes : List ℕ) → length (file_units size count bytes) ≡ count
length-file_units size count bytes = length-map-range_with_len (file_unit size bytes) 0 count

-- a unit of 00s
pub file_unit-zeros : (size total place : ℕ) → size * place + size ≤ total → file_unit size (zeros total) place ≡ zeros size
unfolding zeros
file_unit-zeros size total place fits =
    let count : size * place + size - size * place ≡ size = omega arith in
    ap (λ n. take n (drop (size * place) (replicate total 0))) count
    ∙ ap (take size) (drop-replicate (size * place) total 0)
    ∙ take-replicate size (total - size * place) 0 (omega (arith, fits))

pub length-zeros : (size : ℕ) → length (zeros size) ≡ size
unfolding zeros
length-zeros size = length-replicate size 0

-- a list that has the units by place
all_units : (unit : ℕ → Option (List ℕ)) (size count : ℕ) (bytes : List ℕ) → ((place : ℕ) → place < count → unit place ≡ Some (file_unit size bytes place))
    → map unit (range_with_len 0 count) ≡ map Some (file_units size count bytes)
all_units unit size count bytes is =
    sym (fill_by_all unit (map Some (file_units size count bytes)) count None
    (length-map (file_units size count bytes) Some ∙ length-file_units size count bytes)
    (λ place within.
    let few : place < length (file_units size count bytes) = omega (arith, within, length-file_units size count bytes) in
    get_or-map Some (file_units size count bytes) place [] None few
    ∙ ap Some (unit_at-file_units size count bytes place within)
    ∙ sym (is place within)))

-- in DOS order the sector at a place stands behind as many others
number_of_place : (place : ℕ) → number_in Dos (16 * (place / 16) + physical_of_dos (place % 16)) ≡ place
unfolding in_track
number_of_place place =
    let low : place % 16 < 16 = omega arith in
    let fits = physical_of_dos_fits (place % 16) low in
    let track : (16 * (place / 16) + physical_of_dos (place % 16)) / 16 ≡ place / 16 = omega (arith, fits) in
    let sector : (16 * (place / 16) + physical_of_dos (place % 16)) % 16 ≡ physical_of_dos (place % 16) = omega (arith, fits) in
    let back = ap dos_of_physical sector ∙ dos_of_physical-physical_of_dos (place % 16) low in
    omega (arith, track, back)

dos_holds : (bytes : List ℕ) (sectors : List (Option (List ℕ))) → HoldsSectors Dos bytes sectors → sectors ≡ sectors_by Dos bytes
unfolding HoldsSectors
dos_holds bytes sectors holds = holds

pub sectors_stand : (bytes : List ℕ) (image : DiskImage) → IsImageOf Dos bytes image → units_of Sector image ≡ map Some (file_units 256 560 bytes)
unfolding sectors_by_place
sectors_stand bytes image is =
    all_units (sector_at image.sectors) 256 560 bytes (λ place within.
    let low : place % 16 < 16 = omega arith in
    let fits = physical_of_dos_fits (place % 16) low in
    ap (λ all. sector_at all place) (dos_holds bytes image.sectors is.holds)
    ∙ sector_in-sectors_by Dos bytes (place / 16) (physical_of_dos (place % 16)) (omega (arith, within)) fits
    ∙ ap (λ n. Some (bytes_of_sector bytes n)) (number_of_place place))

prodos_count : (bytes : List ℕ) (count : ℕ) → length bytes ≡ 512 * count → blocks_of Prodos (length bytes) ≡ count
unfolding blocks_of
prodos_count bytes count long = omega (arith, long)

pub count_of : (bytes : List ℕ) (count : ℕ) (image : DiskImage) → IsImageOf Prodos bytes image → length bytes ≡ 512 * count → block_count image ≡ count
count_of bytes count image is long =
    ap (λ o. blocks_of o (length image.bytes)) is.in_order ∙ ap (λ (b : List ℕ). blocks_of Prodos (length b)) is.has_bytes ∙ prodos_count bytes count long

pub blocks_stand : (bytes : List ℕ) (count : ℕ) (image : DiskImage) → IsImageOf Prodos bytes image → length bytes ≡ 512 * count
    → units_of Block image ≡ map Some (file_units 512 count bytes)
unfolding blocks
blocks_stand bytes count image is long =
    let counted = count_of bytes count image is long in
    let holds : HoldsSectors image.order image.bytes image.sectors =
    subst (λ o. HoldsSectors o image.bytes image.sectors) (sym is.in_order) (subst (λ b. HoldsSectors Prodos b image.sectors) (sym is.has_bytes) is.holds) in
    ap (λ n. map (block_in image) (range_with_len 0 n)) counted
    ∙ all_units (block_in image) 512 count bytes (λ place within.
    block_in-prodos image place is.in_order holds (subst (λ n. place < n) (sym counted) within)
    ∙ ap (λ (b : List ℕ). Some (bytes_of_block b place)) is.has_bytes)

-- what a device answers of units that are all there
pub stored_units-there : (size : ℕ) (units : List (List ℕ)) → stored_units size (map Some units) ≡ units
unfolding stored_units
stored_units-there size [] = refl
stored_units-there size (unit ∷ units) = ap (λ rest. unit ∷ rest) (each units)
  where
    each : (units : List (List ℕ)) → map (λ unit. unwrap_or unit (replicate size 0)) (map Some units) ≡ units
    each [] = refl
    each (unit ∷ units) = ap (λ rest. unit ∷ rest) (each units)

there_unreadable : (units : List (List ℕ)) (place : ℕ) → Contains (unreadable_places (map Some units)) place → ⊥
there_unreadable units place in' =
    let within : place < length units = omega (arith, unreadable-within (map Some units) place in', length-map units Some) in
    let never : Some (get_or units place []) ≡ None = sym (get_or-map Some units place [] None within) ∙ unreadable-none (map Some units) place in' in
    absurd (cc)

-- no read of them fails
pub reads_all : (kind : UnitKind) (image : DiskImage) (units : List (List ℕ)) → units_of kind image ≡ map Some units → (place : ℕ) (state : DeviceState)
    → FailsRead place (lent_state kind image 0 0) state → ⊥
reads_all kind image units is place state (inl (used, made)) = absurd (let never : 0 ≡ used.0 + 1 = used.1 in omega (arith, never))
reads_all kind image units is place state (inr (closed, made)) = there_unreadable units place (subst (λ all. Contains (unreadable_places all) place) is closed)
