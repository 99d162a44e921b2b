-- An image and what it keeps in memory.
use Rattle.a2_image.proofs.BlockLemmas.{blocks-set, block_in-stored}
use Rattle.a2_image.specs.Blocks.{blocks, bytes_of_block}
use Rattle.a2_nibble.specs.Field.{content_of}
use Rattle.a2_nibble.specs.Track.{field_at}
use Rattle.a2_nibble.specs.Search.{FindsSector}
use Rattle.std.proofs.Common.{◌≡◌, ◌≢◌, ℕ, ◌+◌, ◌*◌, ◌/◌, ◌<◌, ◌≤◌, List, [], length, get_or, Some, None, refl, sym, ◌∙◌, ap, subst, arith, set}
use Rattle.std.specs.Prelude.{Option, ◌==◌, if◌then◌else◌, IfSome, IfNone}
use Rattle.a2_nibble.specs.declared.search.Field.{Field}
use Rattle.a2_nibble.specs.Sector.{WritesSector}
use Rattle.a2_device.specs.declared.order.Order.{Order}
use Rattle.a2_device.specs.declared.order.Order.TheVariants.{Dos, Prodos, Nibble}
use Rattle.a2_device.specs.Order.{IsImageLength, blocks_of}
use Rattle.a2_image.specs.Image.{DiskImage, IsDisk, IsOfDisk, block_count, sectors_by, sector_in, HoldsSectors}
use Rattle.a2_image.specs.Tracks.{track_of}
use Rattle.a2_image.specs.Kept.{content_at, kept_sectors, kept_bytes, IsKept, HasField}
use Rattle.a2_image.specs.KeptBytes.{HoldsKept}
use Rattle.a2_image.proofs.Sectors.{IsDisk-sectors_by, sector_in-sectors_by}
use Rattle.a2_image.proofs.KeptLemmas.{HoldsTracks-kept, get_or-kept, KeepsFields-at, IsDisk-kept, KeepsFields-written, kept_sectors-written}
use Rattle.a2_image.proofs.KeptByteLemmas.{HoldsKept-tracks, kept_bytes-plain, kept_bytes-written}

-- the image of what is kept
abbrev pub kept_image : Order → List ℕ → List (Option Field) → DiskImage
kept_image order bytes fields = record { order = order; bytes = bytes; sectors = kept_sectors order bytes fields; kept = kept_bytes order bytes fields }

prodos_sectors : (bytes : List ℕ) (fields : List (Option Field)) → length bytes / 512 ≡ 280 → kept_sectors Prodos bytes fields ≡ sectors_by Prodos bytes
unfolding kept_sectors
prodos_sectors bytes fields e = ap (λ n. if n == 280 then sectors_by Prodos bytes else []) e

pub length_of_disk : (order : Order) (bytes : List ℕ) → order ≢ Nibble → IsImageLength order (length bytes) → blocks_of order (length bytes) ≡ 280 → length bytes ≡ 143360
unfolding IsImageLength blocks_of
length_of_disk Dos bytes plain long disk = long
length_of_disk Prodos bytes plain long disk = let whole = long.0 in omega (arith, whole, disk)
length_of_disk Nibble bytes plain long disk = absurd (plain refl)

pub kept-plain : (order : Order) (bytes : List ℕ) (fields : List (Option Field)) → order ≢ Nibble → blocks_of order (length bytes) ≡ 280 → kept_sectors order bytes fields ≡ sectors_by order bytes
unfolding kept_sectors blocks_of
kept-plain Dos bytes fields plain disk = refl
kept-plain Prodos bytes fields plain disk = prodos_sectors bytes fields disk
kept-plain Nibble bytes fields plain disk = absurd (plain refl)

pub few_blocks : (order : Order) (bytes : ℕ) → IsImageLength order bytes → (16 ≤ blocks_of order bytes) × (blocks_of order bytes ≤ 65535)
unfolding IsImageLength blocks_of
few_blocks Dos bytes long = (omega arith, omega arith)
few_blocks Prodos bytes long = let low = long.1 in let high = long.2 in (omega (arith, low), omega (arith, high))
few_blocks Nibble bytes long = (omega arith, omega arith)

pub kept_holds : (order : Order) (bytes : List ℕ) (fields : List (Option Field)) → IsKept order bytes fields → HoldsSectors order bytes (kept_sectors order bytes fields)
unfolding HoldsSectors kept_sectors
kept_holds Dos bytes fields kept = refl
kept_holds Prodos bytes fields kept = refl
kept_holds Nibble bytes fields kept = HoldsTracks-kept bytes fields (kept.keeps refl)

-- the sectors of a disk that lie in the image as they are
pub holds_plain : (order : Order) (bytes : List ℕ) (sectors : List (Option (List ℕ))) → order ≢ Nibble → blocks_of order (length bytes) ≡ 280
    → HoldsSectors order bytes sectors → sectors ≡ sectors_by order bytes
unfolding HoldsSectors blocks_of
holds_plain Dos bytes sectors plain disk holds = holds
holds_plain Prodos bytes sectors plain disk holds = holds ∙ ap (λ n. if n == 280 then sectors_by Prodos bytes else []) disk
holds_plain Nibble bytes sectors plain disk holds = absurd (plain refl)

kept_disk : (order : Order) (bytes : List ℕ) (fields : List (Option Field)) → IsKept order bytes fields → blocks_of order (length bytes) ≡ 280 → IsDisk (kept_sectors order bytes fields)
kept_disk Nibble bytes fields kept disk = IsDisk-kept bytes fields (kept.keeps refl)
kept_disk Dos bytes fields kept disk =
    subst IsDisk (sym (kept-plain Dos bytes fields (λ e. let never : ⊥ = cc in never) disk)) (IsDisk-sectors_by Dos bytes (length_of_disk Dos bytes (λ e. let never : ⊥ = cc in never) kept.long disk))
kept_disk Prodos bytes fields kept disk =
    subst IsDisk (sym (kept-plain Prodos bytes fields (λ e. let never : ⊥ = cc in never) disk)) (IsDisk-sectors_by Prodos bytes (length_of_disk Prodos bytes (λ e. let never : ⊥ = cc in never) kept.long disk))

pub nibble_length : (order : Order) (bytes : List ℕ) → order ≡ Nibble → IsImageLength order (length bytes) → length bytes ≡ 232960
unfolding IsImageLength
nibble_length Dos bytes e long = let never : ⊥ = cc in absurd never
nibble_length Prodos bytes e long = let never : ⊥ = cc in absurd never
nibble_length Nibble bytes e long = long

-- an image whose blocks are not those of a disk is in ProDOS order, and so many blocks long
stored_blocks : (order : Order) (bytes : ℕ) → IsImageLength order bytes → blocks_of order bytes ≢ 280 → (order ≡ Prodos) × (bytes ≡ 512 * blocks_of order bytes)
unfolding IsImageLength blocks_of
stored_blocks Dos bytes long other = absurd (other refl)
stored_blocks Prodos bytes long other = let whole = long.0 in (refl, omega (arith, whole))
stored_blocks Nibble bytes long other = absurd (other refl)

pub holds_kept : (order : Order) (bytes : List ℕ) (fields : List (Option Field)) → IsKept order bytes fields → HoldsKept order bytes (kept_bytes order bytes fields)
unfolding HoldsKept kept_bytes
holds_kept Dos bytes fields kept = refl
holds_kept Prodos bytes fields kept = refl
holds_kept Nibble bytes fields kept = HoldsKept-tracks bytes fields (nibble_length Nibble bytes refl kept.long) (kept.keeps refl)

module _ (image : DiskImage) (order : Order) (bytes : List ℕ) (fields : List (Option Field)) (is : kept_image order bytes fields ≡ image) (kept : IsKept order bytes fields) where
  pub image_kept : HoldsKept image.order image.bytes image.kept
  image_kept = subst (λ (i : DiskImage). HoldsKept i.order i.bytes i.kept) is (holds_kept order bytes fields kept)

  pub image_holds : HoldsSectors image.order image.bytes image.sectors
  image_holds = subst (λ (i : DiskImage). HoldsSectors i.order i.bytes i.sectors) is (kept_holds order bytes fields kept)

  pub image_disk : IsOfDisk image → IsDisk image.sectors
  image_disk = subst (λ (i : DiskImage). IsOfDisk i → IsDisk i.sectors) is (kept_disk order bytes fields kept)

  pub blocks_inside : block_count image ≡ blocks_of order (length bytes)
  blocks_inside = ap block_count (sym is)

  pub plain_length : order ≢ Nibble → IsOfDisk image → length bytes ≡ 143360
  plain_length plain disk = length_of_disk order bytes plain kept.long (sym blocks_inside ∙ disk)

  pub plain_sectors : order ≢ Nibble → IsOfDisk image → image.sectors ≡ sectors_by order bytes
  plain_sectors plain disk = ap (λ (i : DiskImage). i.sectors) (sym is) ∙ kept-plain order bytes fields plain (sym blocks_inside ∙ disk)

  pub plain_there : order ≢ Nibble → IsOfDisk image → (track sector : ℕ) → track < 35 → sector < 16 → sector_in image.sectors track sector ≢ None
  plain_there plain disk track sector lt ls none =
      let some = sym (ap (λ all. sector_in all track sector) (plain_sectors plain disk) ∙ sector_in-sectors_by order bytes track sector lt ls) ∙ none in
      let never : ⊥ = cc in absurd never

  pub nibble_bytes : order ≡ Nibble → length bytes ≡ 232960
  nibble_bytes e = nibble_length order bytes e kept.long

  pub nibble_sectors : order ≡ Nibble → image.sectors ≡ kept_sectors Nibble bytes fields
  nibble_sectors e = ap (λ (i : DiskImage). i.sectors) (sym is) ∙ ap (λ o. kept_sectors o bytes fields) e

  pub nibble_sector : order ≡ Nibble → (track sector : ℕ) → track < 35 → sector < 16
      → sector_in image.sectors track sector ≡ content_at (track_of bytes track) (get_or fields (16 * track + sector) None)
  nibble_sector e track sector lt ls = ap (λ all. sector_in all track sector) (nibble_sectors e) ∙ get_or-kept bytes fields track sector lt ls

  pub stored_length : block_count image ≢ 280 → length bytes ≡ 512 * block_count image
  stored_length other = (stored_blocks order (length bytes) kept.long (λ e. other (blocks_inside ∙ e))).1 ∙ ap (λ n. 512 * n) (sym blocks_inside)

  pub stored_prodos : block_count image ≢ 280 → order ≡ Prodos
  stored_prodos other = (stored_blocks order (length bytes) kept.long (λ e. other (blocks_inside ∙ e))).0

content_at-some : (nibbles : List ℕ) (answer : Option Field) (field : Field) → answer ≡ Some field → content_at nibbles answer ≡ Some (content_of (field_at nibbles field.data_at))
content_at-some nibbles answer field e = ap (content_at nibbles) e

-- the field that is kept for a sector
module _ (image : DiskImage) (order : Order) (bytes : List ℕ) (fields : List (Option Field)) (is : kept_image order bytes fields ≡ image) (kept : IsKept order bytes fields)
    (nibble : order ≡ Nibble) (track sector : ℕ) (track_fits : track < 35) (sector_fits : sector < 16) where
  bytes_inside : bytes ≡ image.bytes
  bytes_inside = ap (λ (i : DiskImage). i.bytes) is

  sector_is : sector_in image.sectors track sector ≡ content_at (track_of image.bytes track) (get_or fields (16 * track + sector) None)
  sector_is = nibble_sector image order bytes fields is kept nibble track sector track_fits sector_fits
      ∙ ap (λ bs. content_at (track_of bs track) (get_or fields (16 * track + sector) None)) bytes_inside

  found : FindsSector (track_of image.bytes track) track sector (get_or fields (16 * track + sector) None)
  found = subst (λ bs. FindsSector (track_of bs track) track sector (get_or fields (16 * track + sector) None)) bytes_inside
      (KeepsFields-at bytes fields (kept.keeps nibble) track sector track_fits sector_fits)

  pub field_kept : (answer : Option Field) → get_or fields (16 * track + sector) None ≡ answer → IfSome answer (λ field. HasField image track sector field)
  field_kept None e = tt
  field_kept (Some field) e = record {
    nibble = ap (λ (i : DiskImage). i.order) (sym is) ∙ nibble;
    stands = (subst (FindsSector (track_of image.bytes track) track sector) e found).found.2;
    gives = sector_is ∙ content_at-some _ _ field e;
  }

  pub no_field_kept : (answer : Option Field) → get_or fields (16 * track + sector) None ≡ answer → IfNone answer (image.order ≡ Nibble → sector_in image.sectors track sector ≡ None)
  no_field_kept None e = λ _. sector_is ∙ ap (content_at (track_of image.bytes track)) e
  no_field_kept (Some field) e = tt

-- a block of an image of another size is written over
pub blocks-stored : (image : DiskImage) (order : Order) (bytes : List ℕ) (fields : List (Option Field)) → kept_image order bytes fields ≡ image → (new : List ℕ) (block : ℕ) (content : List ℕ)
    → block_count image ≢ 280 → block < block_count image → length new ≡ length bytes → bytes_of_block new block ≡ content
    → ((k : ℕ) → k ≢ block → bytes_of_block new k ≡ bytes_of_block bytes k) → blocks (kept_image order new fields) ≡ set (blocks image) block (Some content)
blocks-stored image order bytes fields is new block content other within long written others =
    let count : blocks_of order (length new) ≡ block_count image = ap (blocks_of order) long ∙ ap block_count is in
    let still : block_count (kept_image order new fields) ≢ 280 = λ e. other (sym count ∙ e) in
    blocks-set image (kept_image order new fields) block content within count
    (block_in-stored (kept_image order new fields) block still ∙ ap Some written)
    (λ k l differ. block_in-stored (kept_image order new fields) k still
    ∙ ap Some (others k differ ∙ ap (λ (i : DiskImage). bytes_of_block i.bytes k) is) ∙ sym (block_in-stored image k other))

-- an image of another size keeps no field
pub IsKept-stored : (order : Order) (bytes : List ℕ) (fields : List (Option Field)) (new : List ℕ) → IsKept order bytes fields → blocks_of order (length bytes) ≢ 280
    → length new ≡ length bytes → IsKept order new fields
IsKept-stored order bytes fields new kept other long = record {
  long = subst (IsImageLength order) (sym long) kept.long;
  keeps = λ e. let prodos = (stored_blocks order (length bytes) kept.long other).0 in let never : ⊥ = cc in absurd never;
}

-- a sector of an image in nibble order is written over
module _ (image : DiskImage) (order : Order) (bytes : List ℕ) (fields : List (Option Field)) (is : kept_image order bytes fields ≡ image) (kept : IsKept order bytes fields)
    (nibble : order ≡ Nibble) (new : List ℕ) (track sector : ℕ) (content : List ℕ) (track_fits : track < 35) (sector_fits : sector < 16)
    (writes : WritesSector (track_of bytes track) (track_of new track) track sector content)
    (others : (other : ℕ) → other ≢ track → track_of new other ≡ track_of bytes other) where
  pub IsKept-written : length new ≡ length bytes → IsKept order new fields
  IsKept-written long = record {
    long = subst (IsImageLength order) (sym long) kept.long;
    keeps = λ _. KeepsFields-written bytes new fields track sector content track_fits sector_fits writes others (kept.keeps nibble);
  }

  pub sectors-written : kept_sectors order new fields ≡ set image.sectors (16 * track + sector) (Some content)
  sectors-written =
      ap (λ o. kept_sectors o new fields) nibble
      ∙ kept_sectors-written bytes new fields track sector content track_fits sector_fits writes others (kept.keeps nibble)
      ∙ ap (λ all. set all (16 * track + sector) (Some content)) (sym (nibble_sectors image order bytes fields is kept nibble))

  pub kept-written : length new ≡ length bytes → kept_bytes order new fields ≡ image.kept
  kept-written long =
      ap (λ o. kept_bytes o new fields) nibble
      ∙ kept_bytes-written bytes new fields track sector content track_fits sector_fits writes others (kept.keeps nibble)
      (nibble_bytes image order bytes fields is kept nibble) long
      ∙ ap (λ o. kept_bytes o bytes fields) (sym nibble)
      ∙ ap (λ (i : DiskImage). i.kept) is

-- bytes of another order are written over
pub kept-plain_written : (image : DiskImage) (order : Order) (bytes : List ℕ) (fields : List (Option Field)) → kept_image order bytes fields ≡ image
    → order ≢ Nibble → (new : List ℕ) → length new ≡ length bytes → kept_bytes order new fields ≡ image.kept
kept-plain_written image order bytes fields is plain new long = kept_bytes-plain order bytes new fields plain long ∙ ap (λ (i : DiskImage). i.kept) is

-- a sector of another image of a disk is written over
pub plain-written : (image : DiskImage) (order : Order) (bytes : List ℕ) (fields : List (Option Field)) → kept_image order bytes fields ≡ image → IsKept order bytes fields
    → order ≢ Nibble → IsOfDisk image → (new : List ℕ) (n : ℕ) (content : List ℕ) → length new ≡ length bytes
    → sectors_by order new ≡ set (sectors_by order bytes) n (Some content) → kept_sectors order new fields ≡ set image.sectors n (Some content)
plain-written image order bytes fields is kept plain disk new n content long written =
    kept-plain order new fields plain (ap (blocks_of order) long ∙ ap block_count is ∙ disk) ∙ written
    ∙ ap (λ all. set all n (Some content)) (sym (plain_sectors image order bytes fields is kept plain disk))
