-- The image of an empty volume, from what was made and checked, and why none is made.
use Rattle.std.proofs.Common.{◌≡◌, ◌≢◌, ◌∙◌, ◌⊎◌, ℕ, List, map, Some, arith, refl, sym, subst, inl, inr}
use Rattle.std.specs.Prelude.{◌≤◌, IfErr, IfOk, Option, Result, Ok, Err}
use Rattle.a2_device.specs.declared.order.Order.TheVariants.{Dos, Prodos, Nibble}
use Rattle.a2_device.specs.declared.order.Order.{Order}
use Rattle.a2_image.specs.Image.{DiskImage}
use Rattle.a2_media.specs.FileDevice.{file_units}
use Rattle.a2_media.specs.ImageDevice.{HasUnits, unit_bytes, units_of}
use Rattle.new_volumes.specs.Empty.{IsEmptyVolume}
use Rattle.new_volumes.specs.NewImage.{IsNewImage, LacksBootUnit, RefusesNew}
use Rattle.new_volumes.specs.Plain.{IsInOrder, IsPlain}
use Rattle.new_volumes.specs.Wanted.{HasBlocks, CanStand, TakesBoot, Wanted, boot_places, kind_of, meaning_of, places_of}
use Rattle.new_volumes.specs.declared.error.NewVolumeError.{NewVolumeError}
use Rattle.new_volumes.specs.declared.error.NewVolumeError.TheVariants.{Memory, NoSector, Refused}

-- what follows from a value, and from an error
if_ok : {T E : Type 0} (result : Result T E) (P Q : T → Type 0) → ((value : T) → P value → Q value) → IfOk result P → IfOk result Q
if_ok (Ok value) P Q more holds = more value holds
if_ok (Err error) P Q more holds = holds

if_err : {T E : Type 0} (result : Result T E) (P Q : E → Type 0) → ((error : E) → P error → Q error) → IfErr result P → IfErr result Q
if_err (Ok value) P Q more holds = holds
if_err (Err error) P Q more holds = more error holds

-- an image in any order has 16 blocks at least, and in another order than that of ProDOS those of a disk
pub enough : (order : Order) (blocks : ℕ) → HasBlocks order blocks → 16 ≤ blocks
enough Dos blocks is = omega (arith, is)
enough Prodos blocks is = is
enough Nibble blocks is = omega (arith, is)

pub disk_blocks : (order : Order) (blocks : ℕ) → HasBlocks order blocks → order ≢ Prodos → blocks ≡ 280
disk_blocks Dos blocks is other = is
disk_blocks Prodos blocks is other = absurd (other refl)
disk_blocks Nibble blocks is other = is

module _ (volume : Wanted) (order : Order) (boot : Option (List ℕ)) (stands : CanStand volume order) (good : TakesBoot (kind_of volume) order boot) where
  pub new_image : (number : ℕ) (bytes made : List ℕ) (image : DiskImage) → IsPlain volume order boot bytes → HasUnits (kind_of volume) image
      → units_of (kind_of volume) image ≡ map Some (file_units (unit_bytes (kind_of volume)) (places_of volume) bytes)
      → IsEmptyVolume (meaning_of volume) (file_units (unit_bytes (kind_of volume)) (places_of volume) bytes)
      → IsInOrder image order number made → IsNewImage volume order number boot made
  new_image number bytes made image plain has stand empty in' = record {
    can_stand = stands;
    boot_fits = good;
    image = in'.made;
    is = in'.is;
    units = file_units (unit_bytes (kind_of volume)) (places_of volume) bytes;
    stand = in'.units (kind_of volume) has ∙ stand;
    are = plain.are;
    empty = empty;
    tracks = in'.tracks;
  }

  pub not_copied : (e : NewVolumeError) → (e ≡ Memory) ⊎ ((e ≡ NoSector) × LacksBootUnit (kind_of volume) (boot_places volume) order boot) → RefusesNew volume order boot e
  not_copied e (inl is) = subst (RefusesNew volume order boot) (sym is) (stands, good)
  not_copied e (inr (is, lacks)) = subst (RefusesNew volume order boot) (sym is) (stands, good, lacks)

  pub not_empty : (e : NewVolumeError) (bytes : List ℕ) → IsPlain volume order boot bytes
      → (e ≡ Memory) ⊎ ((e ≡ Refused) × ¬ IsEmptyVolume (meaning_of volume) (file_units (unit_bytes (kind_of volume)) (places_of volume) bytes)) → RefusesNew volume order boot e
  not_empty e bytes plain (inl is) = subst (RefusesNew volume order boot) (sym is) (stands, good)
  not_empty e bytes plain (inr (is, never)) = subst (RefusesNew volume order boot) (sym is) (stands, good, (_, plain.are, never))

  pub no_memory : (e : NewVolumeError) → e ≡ Memory → RefusesNew volume order boot e
  no_memory e is = subst (RefusesNew volume order boot) (sym is) (stands, good)

  -- what is answered in the end
  pub all_made : (number : ℕ) (bytes : List ℕ) (image : DiskImage) {T : Type 0} (items : T → List ℕ) (result : Result T NewVolumeError) → IsPlain volume order boot bytes
      → HasUnits (kind_of volume) image → units_of (kind_of volume) image ≡ map Some (file_units (unit_bytes (kind_of volume)) (places_of volume) bytes)
      → IsEmptyVolume (meaning_of volume) (file_units (unit_bytes (kind_of volume)) (places_of volume) bytes)
      → IfOk result (λ made. IsInOrder image order number (items made)) → IfOk result (λ made. IsNewImage volume order number boot (items made))
  all_made number bytes image items result plain has stand empty told =
      if_ok result (λ made. IsInOrder image order number (items made)) (λ made. IsNewImage volume order number boot (items made))
      (λ made in'. new_image number bytes (items made) image plain has stand empty in') told

  pub all_refused : {T : Type 0} (result : Result T NewVolumeError) → IfErr result (λ e. e ≡ Memory) → IfErr result (RefusesNew volume order boot)
  all_refused result told = if_err result (λ e. e ≡ Memory) (RefusesNew volume order boot) no_memory told
