-- The units of an image in another order.
use Rattle.std.proofs.Common.{◌≡◌, ◌≢◌, ◌∙◌, ℕ, ◌<◌, List, length, map, None, Some, ap, sym, subst, refl, arith}
use Rattle.std.specs.Prelude.{Option}
use Rattle.std.specs.List.{range_with_len}
use Rattle.std.proofs.lemmas.List.FromFn.{fill_by_all, length-map-range_with_len}
use Rattle.a2_device.specs.declared.order.Order.{Order}
use Rattle.a2_device.specs.declared.order.Order.TheVariants.{Nibble}
use Rattle.a2_device.specs.Order.{IsImageLength}
use Rattle.a2_image.specs.Blocks.{block_in, block_of_sectors, blocks}
use Rattle.a2_image.specs.Converting.{MakesTrack, RefusesToConvert}
use Rattle.a2_image.specs.KeptBytes.{HoldsKept}
use Rattle.a2_image.specs.Tracks.{track_of}
use Rattle.a2_image.specs.Image.{DiskImage, HoldsSectors, IsOfDisk, LacksSector, block_count, sector_in}
use Rattle.a2_image.proofs.BlockLemmas.{block_in-disk, get_or-blocks}
use Rattle.a2_image.proofs.ImageLemmas.{holds_plain}
use Rattle.a2_image.proofs.Sectors.{sector_in-sectors_by}
use Rattle.a2_image.specs.declared.error.ImageError.{ImageError}
use Rattle.a2_image.specs.declared.error.ImageError.TheVariants as images
use Rattle.a2_media.specs.DosPlaces.{sectors_by_place}
use Rattle.a2_media.specs.ImageDevice.{HasUnits, units_of}
use Rattle.a2_media.specs.declared.units.UnitKind.{UnitKind}
use Rattle.a2_media.specs.declared.units.UnitKind.TheVariants.{Sector, Block}
use Rattle.new_volumes.specs.Plain.{IsInOrder, error_of}
use Rattle.new_volumes.specs.declared.error.NewVolumeError.TheVariants.{Memory}

length-blocks : (image : DiskImage) → length (blocks image) ≡ block_count image
unfolding blocks
length-blocks image = length-map-range_with_len (block_in image) 0 (block_count image)

all_blocks : (image : DiskImage) → map (block_in image) (range_with_len 0 (block_count image)) ≡ blocks image
unfolding blocks
all_blocks image = refl

same_blocks : (made image : DiskImage) → IsOfDisk made → IsOfDisk image → made.sectors ≡ image.sectors → blocks made ≡ blocks image
same_blocks made image whole disk same = all ∙ sym (ap (λ n. map (block_in image) (range_with_len 0 n)) disk) ∙ all_blocks image
  where
    each : (block : ℕ) → block < 280 → block_in made block ≡ block_in image block
    each block within = block_in-disk made block whole ∙ ap (λ (all : List (Option (List ℕ))). block_of_sectors all block) same ∙ sym (block_in-disk image block disk)

    all : blocks made ≡ map (block_in image) (range_with_len 0 280)
    all = fill_by_all (block_in image) (blocks made) 280 None (length-blocks made ∙ whole)
        (λ block within. get_or-blocks made block (omega (arith, whole, within)) ∙ each block within)

-- the same sectors are the same units
pub same_units : (made image : DiskImage) → IsOfDisk made → IsOfDisk image → made.sectors ≡ image.sectors → (kind : UnitKind) → HasUnits kind image
    → units_of kind made ≡ units_of kind image
same_units made image whole disk same Sector _ = ap sectors_by_place same
same_units made image whole disk same Block _ = same_blocks made image whole disk same

-- an image that was made of the sectors of another
pub converted : (made image : DiskImage) (order : Order) (number : ℕ) (bytes : List ℕ) → made.order ≡ order → bytes ≡ made.bytes
    → IsImageLength made.order (length made.bytes) → HoldsSectors made.order made.bytes made.sectors → HoldsKept made.order made.bytes made.kept → IsOfDisk made → IsOfDisk image → made.sectors ≡ image.sectors
    → (order ≡ Nibble → (track : ℕ) → track < 35 → MakesTrack (track_of made.bytes track) number track image.sectors) → IsInOrder image order number bytes
converted made image order number bytes in_order same long holds kept whole disk sectors tracks =
    subst (IsInOrder image order number) (sym same) (record {
      made = made;
      is = record {
        long = subst (λ (o : Order). IsImageLength o (length made.bytes)) in_order long;
        in_order = in_order;
        has_bytes = refl;
        holds = subst (λ (o : Order). HoldsSectors o made.bytes made.sectors) in_order holds;
        keeps = subst (λ (o : Order). HoldsKept o made.bytes made.kept) in_order kept;
      };
      units = same_units made image whole disk sectors;
      tracks = λ is track low. subst (MakesTrack (track_of made.bytes track) number track) (sym sectors) (tracks is track low);
    })

-- an image whose sectors lie in it as they are lacks none of them
lacks_none : (image : DiskImage) (track sector : ℕ) → image.order ≢ Nibble → HoldsSectors image.order image.bytes image.sectors → LacksSector image track sector → ⊥
lacks_none image track sector plain holds lacks =
    let all = holds_plain image.order image.bytes image.sectors plain lacks.disk holds in
    let there = ap (λ (s : List (Option (List ℕ))). sector_in s track sector) all ∙ sector_in-sectors_by image.order image.bytes track sector lacks.track_fits lacks.sector_fits in
    let never : None ≡ Some _ = sym lacks.lacks ∙ there in
    absurd (cc)

-- so that it can be put into another order
pub only_memory : (image : DiskImage) → image.order ≢ Nibble → IsOfDisk image → HoldsSectors image.order image.bytes image.sectors → (error : ImageError)
    → RefusesToConvert image error → error_of error ≡ Memory
only_memory image plain disk holds images.Length refused = absurd (refused disk)
only_memory image plain disk holds images.Memory refused = refl
only_memory image plain disk holds images.Number refused = absurd refused
only_memory image plain disk holds images.NoSector (track, sector, lacks) = absurd (lacks_none image track sector plain holds lacks)
