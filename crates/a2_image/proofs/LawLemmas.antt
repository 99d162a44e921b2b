-- What holds of every image.
use Rattle.std.proofs.Common.{◌≡◌, ℕ, ◌+◌, ◌*◌, ◌/◌, ◌%◌, ◌-◌, ◌<◌, ◌≤◌, List, [], length, take, drop, ◌++◌, get_or, Some, None, refl, sym, ◌∙◌, ap, arith, ⊎_elim}
use Rattle.std.specs.Prelude.{Option, ◌==◌, if◌then◌else◌}
use Rattle.std.proofs.Math.Seq.{take-add}
use Rattle.std.proofs.lemmas.Bool.{cases_eq}
use Rattle.std.proofs.lemmas.List.{drop-drop}
use Rattle.a2_device.specs.declared.order.Order.{Order}
use Rattle.a2_device.specs.declared.order.Order.TheVariants.{Dos, Prodos, Nibble}
use Rattle.a2_device.specs.Order.{blocks_of, in_track}
use Rattle.a2_image.specs.Image.{DiskImage, HoldsSectors, IsOfDisk, block_count, number_in, sectors_by, bytes_of_sector}
use Rattle.a2_device.specs.Skew.{half_of_physical, physical_of_half}
use Rattle.a2_image.specs.Blocks.{CanLendBlock, sector_of_half, bytes_of_block, block_in}
use Rattle.a2_device.proofs.Skews.{half_of_physical-physical_of_half, physical_of_half_fits}
use Rattle.a2_image.proofs.Skews.{half_fits}
use Rattle.a2_image.proofs.Sectors.{get_or-sectors_by}
use Rattle.a2_image.proofs.BlockLemmas.{block_in-disk, block_in-stored, block_of_sectors-there}
use Rattle.a2_image.proofs.TrackLemmas.{HoldsTracks-one}

pub HoldsSectors-one : (order : Order) (bytes : List ℕ) (a b : List (Option (List ℕ))) → HoldsSectors order bytes a → HoldsSectors order bytes b → a ≡ b
unfolding HoldsSectors
HoldsSectors-one Dos bytes a b h k = h ∙ sym k
HoldsSectors-one Prodos bytes a b h k = h ∙ sym k
HoldsSectors-one Nibble bytes a b h k = HoldsTracks-one bytes a b h k

-- in ProDOS order a half of a block has as many sectors before it as there are halves before it
number_of_half : (h : ℕ) → h < 560 → number_in Prodos (sector_of_half h) ≡ h
unfolding in_track
number_of_half h l =
    let fits = physical_of_half_fits (h % 16) (omega arith) in
    let track : sector_of_half h / 16 ≡ h / 16 = omega (arith, fits) in
    let sector : sector_of_half h % 16 ≡ physical_of_half (h % 16) = omega (arith, fits) in
    let half = ap half_of_physical sector ∙ half_of_physical-physical_of_half (h % 16) (omega arith) in
    omega (arith, track, half)

-- two sectors side by side are a block
block_of_parts : (bytes : List ℕ) (block : ℕ) → bytes_of_sector bytes (2 * block) ++ bytes_of_sector bytes (2 * block + 1) ≡ bytes_of_block bytes block
block_of_parts bytes block =
    let front : 256 * (2 * block) ≡ 512 * block = omega arith in
    let front_size : 256 * (2 * block) + 256 - 256 * (2 * block) ≡ 256 = omega arith in
    let rear : 256 * (2 * block + 1) ≡ 512 * block + 256 = omega arith in
    let rear_size : 256 * (2 * block + 1) + 256 - 256 * (2 * block + 1) ≡ 256 = omega arith in
    let size : 512 * block + 512 - 512 * block ≡ 256 + 256 = omega arith in
    ap (λ n. take n (drop (256 * (2 * block)) bytes) ++ bytes_of_sector bytes (2 * block + 1)) front_size
    ∙ ap (λ n. take 256 (drop n bytes) ++ bytes_of_sector bytes (2 * block + 1)) front
    ∙ ap (λ n. take 256 (drop (512 * block) bytes) ++ take n (drop (256 * (2 * block + 1)) bytes)) rear_size
    ∙ ap (λ n. take 256 (drop (512 * block) bytes) ++ take 256 (drop n bytes)) rear
    ∙ ap (λ xs. take 256 (drop (512 * block) bytes) ++ take 256 xs) (sym (drop-drop 256 (512 * block) bytes))
    ∙ sym (take-add 256 256 (drop (512 * block) bytes))
    ∙ ap (λ n. take n (drop (512 * block) bytes)) (sym size)

prodos_holds : (bytes : List ℕ) (sectors : List (Option (List ℕ))) → length bytes / 512 ≡ 280 → HoldsSectors Prodos bytes sectors → sectors ≡ sectors_by Prodos bytes
unfolding HoldsSectors
prodos_holds bytes sectors disk h = h ∙ ap (λ n. if n == 280 then sectors_by Prodos bytes else []) disk

blocks_of-prodos : (bytes : ℕ) → blocks_of Prodos bytes ≡ bytes / 512
unfolding blocks_of
blocks_of-prodos bytes = refl

-- in ProDOS order each block lies within the bytes
pub block_end-prodos : (image : DiskImage) (block : ℕ) → image.order ≡ Prodos → block < block_count image → 512 * block + 512 ≤ length image.bytes
block_end-prodos image block order within =
    let count : block_count image ≡ length image.bytes / 512 = ap (λ o. blocks_of o (length image.bytes)) order ∙ blocks_of-prodos (length image.bytes) in
    omega (arith, within, count)

pub block_in-prodos : (image : DiskImage) (block : ℕ) → image.order ≡ Prodos → HoldsSectors image.order image.bytes image.sectors → block < block_count image
    → block_in image block ≡ Some (bytes_of_block image.bytes block)
block_in-prodos image block order holds within = ⊎_elim
    (λ disk.
    let count : length image.bytes / 512 ≡ 280 = sym (ap (λ o. blocks_of o (length image.bytes)) order ∙ blocks_of-prodos (length image.bytes)) ∙ disk in
    let sectors = prodos_holds image.bytes image.sectors count (rw (← order) holds) in
    let small : block < 280 = omega (arith, within, disk) in
    let half : (h : ℕ) → h < 560 → get_or image.sectors (sector_of_half h) None ≡ Some (bytes_of_sector image.bytes h) = λ h l.
    ap (λ all. get_or all (sector_of_half h) None) sectors ∙ get_or-sectors_by Prodos image.bytes (sector_of_half h) (half_fits h l)
    ∙ ap (λ n. Some (bytes_of_sector image.bytes n)) (number_of_half h l) in
    block_in-disk image block disk
    ∙ block_of_sectors-there image.sectors block _ _ (half (2 * block) (omega arith)) (half (2 * block + 1) (omega arith))
    ∙ ap Some (block_of_parts image.bytes block))
    (λ other. block_in-stored image block other)
    (cases_eq (block_count image) 280)

-- a block that is not lent as it is, of an image that has it, is one of a disk
pub of_disk-not_lent : (image : DiskImage) (block : ℕ) → block < block_count image → (CanLendBlock image block → ⊥) → IsOfDisk image
unfolding blocks_of
of_disk-not_lent image block within cannot = by_order image.order refl
  where
    by_order : (order : Order) → image.order ≡ order → IsOfDisk image
    by_order Dos is = ap (λ o. blocks_of o (length image.bytes)) is
    by_order Prodos is = absurd (cannot (record { prodos = is; within = within }))
    by_order Nibble is = ap (λ o. blocks_of o (length image.bytes)) is
