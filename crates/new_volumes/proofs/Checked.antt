-- The units of an image that was checked.
use Rattle.std.proofs.Common.{◌≡◌, ◌∙◌, ◌⊎◌, ◌*◌, ◌≤◌, ◌<◌, ℕ, Bool, List, [], length, ap, sym, subst, inl, inr, arith}
use Rattle.a2_device.specs.declared.order.Order.TheVariants.{Dos, Prodos}
use Rattle.a2_device.specs.Device.{DeviceState}
use Rattle.a2_device.specs.Order.{IsImageLength}
use Rattle.a2_image.specs.Image.{DiskImage}
use Rattle.a2_media.specs.FileDevice.{file_units}
use Rattle.a2_media.specs.LentDevice.{lent_state}
use Rattle.a2_media.specs.Units.{stored_units}
use Rattle.a2_media.specs.declared.units.UnitKind.TheVariants.{Sector, Block}
use Rattle.dos_format.specs.Dos.{DosRules, dos_meaning}
use Rattle.pro_format.specs.Pro.{pro_meaning}
use Rattle.new_volumes.specs.Empty.{IsEmptyVolume}
use Rattle.new_volumes.specs.NewImage.{IsImageOf}
use Rattle.new_volumes.specs.declared.error.NewVolumeError.{NewVolumeError}
use Rattle.new_volumes.specs.declared.error.NewVolumeError.TheVariants.{Memory, Refused}
use Rattle.new_volumes.proofs.Units.{blocks_stand, sectors_stand, stored_units-there}

-- a disk, by the format and the device that it was checked with
module _ (data_disk : Bool) (format : DosRules) (nothing : List Bool) (device : DeviceState) (bytes : List ℕ) (image : DiskImage)
    (rules : format ≡ record { data_disk = data_disk; reserved = nothing }) (none : nothing ≡ []) (over : device ≡ lent_state Sector image 0 0) (is : IsImageOf Dos bytes image) where
  sectors : device.store ≡ file_units 256 560 bytes
  sectors = ap (λ (d : DeviceState). d.store) over ∙ ap (stored_units 256) (sectors_stand bytes image is) ∙ stored_units-there 256 (file_units 256 560 bytes)

  pub empty_disk : IsEmptyVolume (dos_meaning format.data_disk format.reserved) device.store → IsEmptyVolume (dos_meaning data_disk []) (file_units 256 560 bytes)
  empty_disk empty =
      subst (IsEmptyVolume (dos_meaning data_disk [])) sectors
      (subst (λ (reserved : List Bool). IsEmptyVolume (dos_meaning data_disk reserved) device.store) none
      (subst (λ (f : DosRules). IsEmptyVolume (dos_meaning f.data_disk f.reserved) device.store) rules empty))

  disk_empty : IsEmptyVolume (dos_meaning data_disk []) (file_units 256 560 bytes) → IsEmptyVolume (dos_meaning format.data_disk format.reserved) device.store
  disk_empty empty =
      subst (λ (f : DosRules). IsEmptyVolume (dos_meaning f.data_disk f.reserved) device.store) (sym rules)
      (subst (λ (reserved : List Bool). IsEmptyVolume (dos_meaning data_disk reserved) device.store) (sym none)
      (subst (IsEmptyVolume (dos_meaning data_disk [])) (sym sectors) empty))

  pub refused_disk : (e : NewVolumeError) → (e ≡ Memory) ⊎ ((e ≡ Refused) × ¬ IsEmptyVolume (dos_meaning format.data_disk format.reserved) device.store)
      → (e ≡ Memory) ⊎ ((e ≡ Refused) × ¬ IsEmptyVolume (dos_meaning data_disk []) (file_units 256 560 bytes))
  refused_disk e (inl same) = inl same
  refused_disk e (inr (same, never)) = inr (same, λ empty. never (disk_empty empty))

-- blocks
module _ (count : ℕ) (format nothing : List Bool) (device : DeviceState) (bytes : List ℕ) (image : DiskImage)
    (rules : format ≡ nothing) (none : nothing ≡ []) (over : device ≡ lent_state Block image 0 0) (is : IsImageOf Prodos bytes image) (long : length bytes ≡ 512 * count) where
  units : device.store ≡ file_units 512 count bytes
  units = ap (λ (d : DeviceState). d.store) over ∙ ap (stored_units 512) (blocks_stand bytes count image is long) ∙ stored_units-there 512 (file_units 512 count bytes)

  pub empty_blocks : IsEmptyVolume (pro_meaning format) device.store → IsEmptyVolume (pro_meaning []) (file_units 512 count bytes)
  empty_blocks empty =
      subst (IsEmptyVolume (pro_meaning [])) units
      (subst (λ (reserved : List Bool). IsEmptyVolume (pro_meaning reserved) device.store) (rules ∙ none) empty)

  blocks_empty : IsEmptyVolume (pro_meaning []) (file_units 512 count bytes) → IsEmptyVolume (pro_meaning format) device.store
  blocks_empty empty =
      subst (λ (reserved : List Bool). IsEmptyVolume (pro_meaning reserved) device.store) (sym (rules ∙ none))
      (subst (IsEmptyVolume (pro_meaning [])) (sym units) empty)

  pub refused_blocks : (e : NewVolumeError) → (e ≡ Memory) ⊎ ((e ≡ Refused) × ¬ IsEmptyVolume (pro_meaning format) device.store)
      → (e ≡ Memory) ⊎ ((e ≡ Refused) × ¬ IsEmptyVolume (pro_meaning []) (file_units 512 count bytes))
  refused_blocks e (inl same) = inl same
  refused_blocks e (inr (same, never)) = inr (same, λ empty. never (blocks_empty empty))

-- so many blocks are the bytes of an image in ProDOS order
pub prodos_length : (bytes count : ℕ) → bytes ≡ 512 * count → 16 ≤ count → count < 65536 → IsImageLength Prodos bytes
unfolding IsImageLength
prodos_length bytes count long enough few = (omega (arith, long), omega (arith, long, enough), omega (arith, long, few))
